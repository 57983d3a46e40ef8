use Rattle.reference_motion.proofs.fraction.Goals as goal
use Rattle.reference_motion.specs.Motion as Motion

pub returns : goal.returns
unfolding Motion.fraction
returns c = rw (c.to_float-2.ensures, c.to_float.ensures)
