use Rattle.reference_motion.proofs.shape.Goals as goal
use mathlib.Core.Path.{refl}
use lib.Ieee as Ieee
use Rattle.reference_motion.specs.Motion as Motion

pub returns : goal.returns
unfolding Motion.shape Ieee.of_bits
returns c = refl
