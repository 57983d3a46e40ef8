-- `planner::check_end` meets its contract: the fate of `end_checks` decides, as in the definition: no path, or the path of `path_of`.
use mathlib.Core.Path.{◌∙◌, refl}
use Rattle.planner.proofs.check_end.Goals as goal

pub returns-in-Err : goal.returns-in-Err
returns-in-Err c =
    let end-checks = c.end_checks in
    c.refused.ensures ∙ rw (← end-checks.ensures, c.in-Err.is) refl

pub returns-in-Ok : goal.returns-in-Ok
returns-in-Ok c = rw (← c.end_checks.ensures, c.in-Ok.is, c.path_of.ensures) refl
