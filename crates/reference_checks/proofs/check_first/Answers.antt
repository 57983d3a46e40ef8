use Rattle.std.proofs.lemmas.Result.{err_from_is_err_and}
use Rattle.reference_checks.specs.Checks.{check_first}
use Rattle.reference_checks.proofs.check_first.Goals as goal

pub returns-in_err-check_sample : goal.returns-in_err-check_sample
unfolding check_first
returns-in_err-check_sample c =
    let p = err_from_is_err_and c.from_residual.result c.from_residual.ensures.1 in
    rw (p.1, p.2, ← c.check_sample.ensures, c.in_err-check_sample.was)

pub returns : goal.returns
unfolding check_first
returns c = rw (← c.check_sample.ensures, c.in_ok-check_sample.was) c.check_start.ensures
