-- `read::same` meets its contract: only of a number that equals itself the pattern is asked. Assumes nothing.
use Rattle.cases.proofs.Floats.{equals_itself, by_bits, by_nan}
use Rattle.cases.proofs.read.same.Goals as goal

pub float_to_bits-result : goal.float_to_bits-result
float_to_bits-result c = equals_itself _ c.if-x.true

pub returns-then-x : goal.returns-then-x
returns-then-x c = by_bits _ _ _ c.at-w.ensures c.if-x.true

pub returns : goal.returns
returns c = by_nan _ _ _ c.at-w.ensures c.if-x.false _ c.real_of-y.ensures
