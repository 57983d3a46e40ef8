use Rattle.reference_checks.proofs.check_rest.Goals as goal
use native.Mathlib.Omega.{arith}
use Rattle.reference_checks.specs.StepLaws.{rest_refused, rest_goes}

pub returns-in-Err : goal.returns-in-Err
returns-in-Err c = record { is = rest_refused _ _ c.check_steps-verdict.ensures.is c.in-Err.is; few = omega (arith, c.check_steps-verdict.ensures.few) }

pub returns-in-Ok : goal.returns-in-Ok
returns-in-Ok c = record { is = rest_goes _ _ c.check_steps-verdict.ensures.is c.in-Ok.is c.check_end.ensures; few = omega (arith, c.check_steps-verdict.ensures.few) }
