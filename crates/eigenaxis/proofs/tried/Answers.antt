-- `tried` meets its contract: it is `plan_from` with the seed's numbers, and `plan_from_most` bounds its runs.
use Rattle.planner.specs.RunsMost.{plan_from_most}
use Rattle.eigenaxis.proofs.tried.Goals as goal

pub returns : goal.returns
returns c = let e = c.plan_from.ensures in ((e.0, rw e.0 (plan_from_most _ _ _ _ _)), (e.1.0, e.1.1))
