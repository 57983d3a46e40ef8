use Rattle.std.proofs.Common.{refl}
use Rattle.std.specs.Float.Ieee as Ieee
use Rattle.scvx.specs.Search as Search
use Rattle.scvx.proofs.columns.width.Goals as goal

pub returns-then-p : goal.returns-then-p
unfolding Search.width Ieee.of_bits
returns-then-p c = rw c.if-p.true refl

pub returns-else-p : goal.returns-else-p
unfolding Search.width Ieee.of_bits
returns-else-p c = rw c.if-p.false refl
