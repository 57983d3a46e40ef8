use Rattle.reference_motion.proofs.acceleration_at.Goals as goal
use Rattle.reference_motion.specs.Motion as Motion

pub returns : goal.returns
unfolding Motion.acceleration_at
returns c = rw (c.scale3.ensures, c.shape_acceleration.ensures)
