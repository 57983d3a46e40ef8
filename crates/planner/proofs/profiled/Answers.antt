-- `planner::profiled` meets its contract: it is `bang_coast_bang` on the problem's own numbers, as in the definition.
use Rattle.planner.specs.Plans as Plans
use mathlib.Core.Path.{◌∙◌, refl}
use Rattle.planner.proofs.profiled.Goals as goal

pub returns : goal.returns
unfolding Plans.profiled
returns c = c.bang_coast_bang.ensures ∙ rw c.tensor.ensures refl
