-- The words so far.
use Rattle.std.proofs.Common.{◌≡◌, ◌≤◌, ◌+◌, length, Some}
use Rattle.common.specs.Iter.{iter}
use Rattle.order_text.specs.TileTexts.{row_turn}
use Rattle.order_text.proofs.reading.row_at.Given as goal

abbrev pub invariant-loop-k : goal.invariant-loop-k
invariant-loop-k l = record {
  so_far : Some l.c ≡ iter (λ i d. row_turn l.s (l.base + i) d) (Some l.initial.c) l.k;
  within : l.c.at ≤ length l.s;
}
