-- After k turns the first k nodes are those in the rows.
use Rattle.std.proofs.Common.{ℕ, ◌≡◌, ◌<◌, length, get_or}
use Rattle.forward.specs.Runs.{no_node}
use Rattle.forward.specs.Rows.{node_from, row_at}
use Rattle.forward.proofs.rows.nodes_in.Given as goal

abbrev pub invariant-loop-k : goal.invariant-loop-k
invariant-loop-k l = (length l.nodes ≡ 17) × ((i : ℕ) → i < l.k → get_or l.nodes i no_node ≡ node_from (row_at l.rows i))
