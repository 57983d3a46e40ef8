-- After i turns the first i places have their counts.
use Rattle.std.proofs.Common.{◌≡◌, length}
use Rattle.common.specs.Iter.{iter}
use Rattle.held_counts.specs.Counts as Counts
use Rattle.held_counts.proofs.held_counts.Given as goal

abbrev pub invariant-loop-i : goal.invariant-loop-i
invariant-loop-i l = (length l.out ≡ 12) × (l.out ≡ iter (Counts.place_turn l.map l.torque_limit l.z) Counts.none_held l.i)
