use Rattle.std.proofs.Common.{◌≡◌, ◌+◌, ◌≤◌}
use Rattle.common.specs.Iter.{iter}
use Rattle.eigenaxis_seed.specs.Shapes as Shapes
use Rattle.eigenaxis_seed.proofs.limited_rising.Given as goal

-- k is the definition's after so many turns, and above 1 for `fewer_rising`
abbrev pub invariant-loop : goal.invariant-loop
invariant-loop l = record {
  most : l.k ≤ 8;
  least : 8 ≤ l.k + l.counter;
  same : l.k ≡ iter (Shapes.rising_turn l.limit l.angle l.duration) 8 l.counter;
}
