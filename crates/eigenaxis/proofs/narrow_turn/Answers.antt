-- `narrow_turn` meets its contract: where no answer stands the ladder stays (`narrow_stays`), else the rung at `middle` is tried (`narrow_goes`).
use mathlib.Core.Path.{◌∙◌, refl}
use Rattle.eigenaxis.specs.LadderLaws.{keeps_same, narrow_goes, narrow_stays}
use Rattle.eigenaxis.proofs.narrow_turn.Goals as goal

pub returns-in-Err : goal.returns-in-Err
returns-in-Err c = (narrow_stays _ _ _ _ 0 c.in-Err.is, keeps_same _ _ refl)

pub returns-in-Ok : goal.returns-in-Ok
returns-in-Ok c =
    let enum-told2 = c.in-Ok in
    let middle = c.middle in
    (c.rung.ensures.0 ∙ narrow_goes _ _ _ _ 0 middle.ensures enum-told2.is, c.rung.ensures.1)
