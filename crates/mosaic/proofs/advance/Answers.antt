-- `mosaic::advance` meets its contract: `runs_most` bounds the leg's runs, as `moved` asks, and `turned` puts the callees' contracts together.
use Rattle.mosaic.specs.WayLaws.{runs_most}
use Rattle.mosaic.proofs.Steps.{turned}
use Rattle.mosaic.proofs.advance.Goals as goal

pub moved-requires : goal.moved-requires
moved-requires c =
    (c.requires, rw c.plan_by-planned.ensures.value (runs_most _ _ _))

pub returns : goal.returns
returns c =
    turned c.leg_problem.ensures c.plan_by-planned.ensures.value c.plan_by-planned.ensures.ws_after c.plan_by-planned.ensures.answers_by c.moved.ensures
