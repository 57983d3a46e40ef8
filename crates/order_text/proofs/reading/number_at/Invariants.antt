-- The digits so far.
use Rattle.std.proofs.Common.{◌≡◌, ◌≤◌, length}
use Rattle.common.specs.Iter.{iter}
use Rattle.order_text.specs.TileTexts.{most, digit_turn}
use Rattle.order_text.proofs.reading.number_at.Given as goal

abbrev pub invariant-loop-k : goal.invariant-loop-k
invariant-loop-k l = record {
  so_far : l.c ≡ iter (λ _ d. digit_turn l.s d) l.initial.c l._k;
  within : l.c.at ≤ length l.s;
  low : l.c.v ≤ most;
}
