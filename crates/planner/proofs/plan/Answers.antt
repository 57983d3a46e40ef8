-- `planner::plan` meets its contract: `check` and `with_profile` are the definition's stages, and `plan_answers` gives the promise.
use Rattle.std.proofs.Common.{rules}
use mathlib.Core.Path.{refl}
use mathlib.Core.List.{[]}
use Rattle.problem.specs.Problems.{check}
use Rattle.planner.specs.Plans as Plans
use Rattle.planner.specs.PlanLaws.{sized_as}
use Rattle.planner.specs.OutcomeLaws.{outcome_as, entry_refused, entry_as}
use Rattle.planner.specs.Promises.{Answers, own_seed}
use Rattle.planner.proofs.PromisesKept.{plan_answers}
use Rattle.planner.proofs.Fitting.{problem_held}
use Rattle.planner.proofs.plan.Goals as goal

pub with_profile-requires : goal.with_profile-requires
with_profile-requires c = sized_as _ c.check-checked.ensures c.in-Ok.is

pub returns-in-Err : goal.returns-in-Err
unfolding Plans.plan
returns-in-Err c =
    let good = c.well_formed in
    entry_refused (λ r. Answers c.args.p (own_seed (check c.args.p).problem) r) _ [] c.refused.ensures (rw (← c.check-checked.ensures, c.in-Err.is) refl) (λ fit. plan_answers _ (problem_held c.args.p _ good.0) _)

pub returns-in-Ok : goal.returns-in-Ok
unfolding Plans.plan
returns-in-Ok c =
    let good = c.well_formed in
    let enum_told = c.in-Ok in
    entry_as (λ r. Answers c.args.p (own_seed (check c.args.p).problem) r) (outcome_as c.with_profile.ensures (rw (← c.check-checked.ensures, enum_told.is) refl)) (λ fit. plan_answers _ (problem_held c.args.p _ good.0) _)
