-- `planner::with_profile` meets its contract: a refused profile ends it before any run; else `sample_seed` gives the seed and the rest follows.
use mathlib.Core.Path.{refl}
use Rattle.planner.specs.Plans as Plans
use Rattle.planner.specs.OutcomeLaws.{refusal, profiled_as}
use Rattle.planner.proofs.with_profile.Goals as goal

pub returns-in-Err : goal.returns-in-Err
unfolding Plans.with_profile
returns-in-Err c =
    let profiled = c.profiled-made in
    refusal _ c.refused.ensures (rw (← profiled.ensures, c.in-Err.is) refl)

pub returns-in-Ok : goal.returns-in-Ok
returns-in-Ok c =
    let profiled = c.profiled-made in
    let enum_told = c.in-Ok in
    let sample-seed = c.sample_seed in
    profiled_as _ _ profiled.ensures enum_told.is sample-seed.ensures c.with_profile_seed.ensures
