use Rattle.reference_motion.specs.Motion.{refine_log}
use Rattle.reference_motion.proofs.refine_log.Goals as goal

pub returns-in_err-exp_so3 : goal.returns-in_err-exp_so3
unfolding refine_log
returns-in_err-exp_so3 c = rw (c.from_residual.ensures, ← c.exp_so3.ensures, c.in_err-exp_so3.was)

pub returns : goal.returns
unfolding refine_log
returns c = rw (← c.exp_so3.ensures, c.in_ok-exp_so3.was, c.correct_log.ensures)
