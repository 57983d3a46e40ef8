use Rattle.std.specs.Float.Ieee.{to_bits}
use Rattle.text_writer.proofs.Writing.{unequal_nan, equal_no_nan}
use Rattle.text_writer.proofs.put.bits_of.Goals as goal

pub returns-then-x : goal.returns-then-x
unfolding to_bits
returns-then-x c = rw (unequal_nan _ c.if-x.true)

pub float_to_bits-result : goal.float_to_bits-result
float_to_bits-result c = equal_no_nan _ c.if-x.false
