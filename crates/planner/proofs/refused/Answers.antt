-- `planner::refused` meets its contract: each field is the definition's blank one, the nodes by `blank_node`.
use lib.Ieee as Ieee
use Rattle.planner.proofs.refused.Goals as goal

pub returns : goal.returns
unfolding Ieee.of_bits
returns c = rw c.blank_node.ensures
