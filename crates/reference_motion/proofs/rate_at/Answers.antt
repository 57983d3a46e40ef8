use Rattle.reference_motion.proofs.rate_at.Goals as goal
use Rattle.reference_motion.specs.Motion as Motion

pub returns : goal.returns
unfolding Motion.rate_at
returns c = rw (c.scale3.ensures, c.shape_rate.ensures)
