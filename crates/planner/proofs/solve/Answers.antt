-- `planner::solve` meets its contract: `search` finds, `clear` makes the workspace zeros, and `answered` answers what was found.
use mathlib.Core.Path.{◌∙◌, refl}
use lib.Ieee as Ieee
use Rattle.planner.proofs.Fitting.{array_held}
use Rattle.planner.proofs.solve.Goals as goal

pub returns : goal.returns
unfolding Ieee.of_bits
returns c =
    let good = c.well_formed in
    let search = c.search-found in
    (c.answered.ensures ∙ rw search.ensures.0 refl, (c.clear.ensures ∙ rw search.ensures.1 refl, array_held 193 c.args.seed _ good.1.0))
