-- `planner::with_profile_seed` meets its contract: a profile's seed has 51 torques, so `with_seed` has the 48 that it asks for.
use native.Mathlib.Omega.{arith}
use Rattle.planner.proofs.Fitting.{field_count}
use Rattle.planner.proofs.with_profile_seed.Goals as goal

pub with_seed-requires : goal.with_seed-requires
with_seed-requires c =
    let good = c.well_formed in
    (c.requires, λ e. omega (arith, field_count 51 c.args.seed.torques _ good.1.0.1.1.1.1.0))
