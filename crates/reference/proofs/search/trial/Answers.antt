use Rattle.std.proofs.Common.{rules}
use Rattle.reference.proofs.search.trial.Goals as goal
use native.Mathlib.Omega.{arith}
use mathlib.Core.Path.{◌∙◌}
use Rattle.reference.specs.Prepare as Prepare
use Rattle.reference.specs.SearchLaws.{times_steps, trial_passes, trial_refused}

pub verify-verdict-requires : goal.verify-verdict-requires
unfolding Prepare.with_times
verify-verdict-requires c = rw c.with_times.ensures (search rules)

pub record_pass-requires : goal.record_pass-requires
record_pass-requires c = let h = times_steps _ _ _ c.with_times.ensures in (search rules, omega (arith, h, c.verify-verdict.ensures.few, c.requires.1.0))

pub record_refusal-requires : goal.record_refusal-requires
record_refusal-requires c = let h = times_steps _ _ _ c.with_times.ensures in (search rules, omega (arith, h, c.verify-verdict.ensures.few, c.requires.1.0))

pub returns-in-Ok : goal.returns-in-Ok
returns-in-Ok c = c.record_pass.ensures ∙ trial_passes _ _ _ _ _ c.with_times.ensures c.verify-verdict.ensures.is c.in-Ok.is

pub returns-in-Err : goal.returns-in-Err
returns-in-Err c = c.record_refusal.ensures ∙ trial_refused _ _ _ _ _ c.with_times.ensures c.verify-verdict.ensures.is c.in-Err.is
