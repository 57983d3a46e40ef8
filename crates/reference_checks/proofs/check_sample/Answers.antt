use Rattle.reference_checks.proofs.check_sample.Goals as goal
use mathlib.Core.Path.{◌∙◌}
use Rattle.reference_checks.specs.Checks as Checks
use Rattle.reference_checks.specs.CaseLaws.{sample_goes}

pub returns-in-Err : goal.returns-in-Err
unfolding Checks.check_sample
returns-in-Err c = rw c.in-Err.is

pub returns-in-Ok : goal.returns-in-Ok
returns-in-Ok c = c.check_limits.ensures ∙ sample_goes _ _ _ c.in-Ok.is
