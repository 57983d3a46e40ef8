-- `planner::plan_from` meets its contract: `check` and `with_seed` are the definition's stages, and `plan_from_answers` gives the promise.
use Rattle.std.proofs.Common.{rules}
use mathlib.Core.Path.{refl, sym, ◌∙◌}
use Rattle.problem.specs.Problems.{check}
use Rattle.planner.specs.Plans as Plans
use Rattle.planner.specs.PlanLaws.{sized_as, counted_long}
use Rattle.planner.specs.OutcomeLaws.{from_as, entry_refused, entry_as}
use Rattle.planner.specs.Promises.{Answers}
use Rattle.planner.proofs.PromisesKept.{plan_from_answers}
use Rattle.planner.proofs.Fitting.{problem_held}
use Rattle.planner.proofs.plan_from.Goals as goal

pub with_seed-requires : goal.with_seed-requires
with_seed-requires c =
    (sized_as _ c.check-checked.ensures c.in-Ok.is, λ h. counted_long c.args.rates.now c.args.torques.now (sym c.counted.ensures ∙ h))

pub returns-in-Err : goal.returns-in-Err
unfolding Plans.plan_from
returns-in-Err c =
    let good = c.well_formed in
    entry_refused (λ r. Answers c.args.p (Plans.seed_of (check c.args.p).problem c.args.duration c.args.torques.now) r) _ (Plans.seed_of (check c.args.p).problem c.args.duration c.args.torques.now) c.refused.ensures (rw (← c.check-checked.ensures, c.in-Err.is) refl) (λ fit. plan_from_answers _ (problem_held c.args.p _ good.0) _ _ _ _ fit)

pub returns-in-Ok : goal.returns-in-Ok
returns-in-Ok c =
    let good = c.well_formed in
    let enum_told = c.in-Ok in
    let counted = c.counted in
    entry_as (λ r. Answers c.args.p (Plans.seed_of (check c.args.p).problem c.args.duration c.args.torques.now) r) (from_as c.args.p c.args.duration c.args.rates.now c.args.torques.now _ c.check-checked.ensures enum_told.is counted.ensures c.with_seed.ensures) (λ fit. plan_from_answers _ (problem_held c.args.p _ good.0) _ _ _ _ fit)
