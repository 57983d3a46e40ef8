use Rattle.reference_motion.proofs.correct_log.Goals as goal
use lib.Ieee as Ieee
use Rattle.reference_motion.specs.Motion as Motion

pub returns : goal.returns
unfolding Motion.correct_log Ieee.of_bits
returns c = rw (c.mul-left.ensures, c.conjugate.ensures)
