use Rattle.std.proofs.lemmas.Result.{err_from_is_err_and}
use Rattle.reference_checks.specs.Checks.{check_step}
use Rattle.reference_checks.proofs.check_step.Goals as goal

pub returns-in_err-check_sample : goal.returns-in_err-check_sample
unfolding check_step
returns-in_err-check_sample c =
    let p = err_from_is_err_and c.from_residual.result c.from_residual.ensures.1 in
    rw (p.1, p.2, ← c.check_sample.ensures, c.in_err-check_sample.was)

pub returns : goal.returns
unfolding check_step
returns c = rw (← c.check_sample.ensures, c.in_ok-check_sample.was) (rw (c.check_controls.ensures, c.controls.ensures))
