use Rattle.reference_motion.proofs.rotation_at.Goals as goal
use Rattle.reference_motion.specs.Motion as Motion

pub returns : goal.returns
unfolding Motion.rotation_at
returns c = rw (c.exp_so3.ensures, c.scale3.ensures, c.shape.ensures)
