use Rattle.reach_avoid.proofs.PromisesKept.{region_right}
use Rattle.reach_avoid.proofs.region.Goals as goal

pub returns : goal.returns
returns c = region_right _ c.fill.ensures
