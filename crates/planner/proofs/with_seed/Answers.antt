-- `planner::with_seed` meets its contract: where `served` does not refuse, the controls are at most 12, as `seeded` asks.
use Rattle.std.proofs.Common.{rules}
use mathlib.Core.Path.{◌≡◌, refl, sym, ◌∙◌}
use Rattle.planner.specs.Plans as Plans
use Rattle.planner.specs.OutcomeLaws.{refusal, outcome_as}
use Rattle.seeds.specs.SeedLaws.{served_narrow}
use Rattle.planner.proofs.with_seed.Goals as goal

pub seeded-requires : goal.seeded-requires
seeded-requires c =
    (c.requires.0, (served_narrow _ c.requires.0 (sym c.served.ensures ∙ c.in-Ok.is), c.requires.1))

pub returns-in-Err : goal.returns-in-Err
unfolding Plans.with_seed
returns-in-Err c =
    let served = c.served in
    refusal _ c.refused.ensures (rw (← served.ensures, c.in-Err.is) refl)

pub returns-in-Ok : goal.returns-in-Ok
unfolding Plans.with_seed
returns-in-Ok c =
    let served = c.served in
    let enum_told = c.in-Ok in
    outcome_as c.seeded.ensures (rw (← served.ensures, enum_told.is) refl)
