-- After k turns the count is that of the first k rows.
use Rattle.std.proofs.Common.{◌≡◌}
use Rattle.common.specs.Iter.{iter}
use Rattle.held_counts.specs.Counts as Counts
use Rattle.held_counts.proofs.held_at.Given as goal

abbrev pub invariant-loop-k : goal.invariant-loop-k
invariant-loop-k l = l.count ≡ iter (Counts.count_turn l.limit l.n l.z l.i) 0 l.k
