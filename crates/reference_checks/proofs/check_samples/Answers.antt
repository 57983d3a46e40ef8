use Rattle.reference_checks.proofs.check_samples.Goals as goal
use native.Mathlib.Omega.{arith}
use Rattle.reference_checks.specs.Checks as Checks

pub returns-in-Err : goal.returns-in-Err
unfolding Checks.check_samples
returns-in-Err c = record { is = rw (← c.sample_of-first.ensures, ← c.check_first.ensures, c.in-Err.is); few = omega arith }

pub returns-in-Ok : goal.returns-in-Ok
unfolding Checks.check_samples
returns-in-Ok c = record { is = rw (← c.sample_of-first.ensures, ← c.check_first.ensures, c.in-Ok.is) c.check_rest.ensures.is; few = c.check_rest.ensures.few }
