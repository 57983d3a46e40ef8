-- `planner::path_of` meets its contract: each field is the definition's, with the contracts of `held_of` and `control_dim`.
use lib.Ieee as Ieee
use Rattle.planner.proofs.path_of.Goals as goal

pub returns : goal.returns
unfolding Ieee.of_bits
returns c =
    let held_of = c.held_of in
    rw (c.control_dim.ensures, held_of.ensures)
