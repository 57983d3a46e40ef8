use Rattle.reference_motion.proofs.mid_fraction.Goals as goal
use lib.Ieee as Ieee
use Rattle.reference_motion.specs.Motion as Motion

pub returns : goal.returns
unfolding Motion.mid_fraction Ieee.of_bits
returns c = rw (c.to_float-2.ensures, c.to_float.ensures)
