-- `planner::answered` meets its contract: the fate of what was found decides, as in the definition, and each case is its callee's contract.
use Rattle.planner.specs.Plans as Plans
use mathlib.Core.Path.{◌∙◌, refl}
use Rattle.planner.proofs.answered.Goals as goal

pub returns-in-Err : goal.returns-in-Err
unfolding Plans.answered
returns-in-Err c = c.refused.ensures ∙ rw c.in-Err.is refl

pub returns-in-Ok : goal.returns-in-Ok
unfolding Plans.answered
returns-in-Ok c = c.check_end.ensures ∙ rw c.in-Ok.is refl
