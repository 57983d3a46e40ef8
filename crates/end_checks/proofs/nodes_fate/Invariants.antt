use Rattle.std.proofs.Common.{◌≡◌}
use Rattle.common.specs.Iter.{iter}
use Rattle.common.specs.Refusals.{going}
use Rattle.end_checks.specs.Ends as Ends
use Rattle.end_checks.proofs.nodes_fate.Given as goal

-- no node before k is refused
abbrev pub invariant-loop-k : goal.invariant-loop-k
invariant-loop-k l = going ≡ iter (Ends.node_turn l.p l.nodes) going l.k
