-- `forward::steps::step_gimbals` meets its contract: without a pyramid the gimbals stay; with one, the pyramid's own contract.
use mathlib.Core.Path.{◌≡◌, refl, sym, ◌∙◌}
use Rattle.forward.specs.Steps as Steps
use Rattle.forward.specs.StepLaws.{pyramid_steps, gimbals_matrix, row_room}
use native.Mathlib.Omega.{arith}
use Rattle.forward.proofs.steps.step_gimbals.Goals as goal

pub step_pyramid-requires : goal.step_pyramid-requires
step_pyramid-requires c =
    rw c.in-Some.is at c.requires

pub returns-in-None : goal.returns-in-None
unfolding Steps.step_gimbals
returns-in-None c = rw c.in-None.is

pub returns-in-Some : goal.returns-in-Some
returns-in-Some c = rw c.in-Some.is c.step_pyramid.ensures
