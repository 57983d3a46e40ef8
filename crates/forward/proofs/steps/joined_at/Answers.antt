-- `forward::steps::joined_at` meets its contract: dynamics that were refused stop the step; else the state is theirs with the attitude put in.
use mathlib.Core.Path.{refl}
use Rattle.forward.specs.StepLaws.{rooted_stop}
use Rattle.forward.proofs.steps.joined_at.Goals as goal

pub returns-in-Err : goal.returns-in-Err
returns-in-Err c = rw (c.stop.ensures, c.in-Err.is) (rooted_stop _ _ _)

pub returns-in-Ok : goal.returns-in-Ok
returns-in-Ok c =
    let enum_told = c.in-Ok in
    rw enum_told.is refl
