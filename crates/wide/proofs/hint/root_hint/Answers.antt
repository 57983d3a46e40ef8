-- Both patterns are below a NaN's.
use Rattle.std.proofs.Common.{arith}
use Rattle.wide.proofs.Patterns.{no_nan_bits}
use Rattle.wide.proofs.hint.root_hint.Goals as goal

pub float_from_bits-f : goal.float_from_bits-f
float_from_bits-f c = no_nan_bits _ (omega arith)

pub float_from_bits-y : goal.float_from_bits-y
float_from_bits-y c = no_nan_bits _ (omega arith)
