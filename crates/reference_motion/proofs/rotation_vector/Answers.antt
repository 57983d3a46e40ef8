use Rattle.reference_motion.specs.Motion.{rotation_vector}
use Rattle.reference_motion.proofs.rotation_vector.Goals as goal

pub returns-in_err-x : goal.returns-in_err-x
unfolding rotation_vector
returns-in_err-x c = rw (c.from_residual.ensures, ← c.rotation_between.ensures, c.in_err-x.was)

pub returns : goal.returns
unfolding rotation_vector
returns c = rw (← c.rotation_between.ensures, c.in_ok-x.was, c.refine_log.ensures, c.mul.ensures, c.conjugate.ensures)
