-- The blanks so far.
use Rattle.std.proofs.Common.{◌≡◌, ◌≤◌, ◌+◌}
use Rattle.common.specs.Iter.{iter}
use Rattle.order_text.specs.TileTexts.{width_turn}
use Rattle.order_text.proofs.reading.width_at.Given as goal

abbrev pub invariant-loop-k : goal.invariant-loop-k
invariant-loop-k l = record {
  so_far : l.c ≡ iter (λ i d. width_turn l.s (l.at + i) d) l.initial.c l.k;
  few : l.c.count ≤ l.k;
}
