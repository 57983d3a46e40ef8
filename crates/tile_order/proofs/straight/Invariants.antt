-- The places passed are filled.
use Rattle.std.proofs.Common.{◌≡◌}
use Rattle.std.proofs.Math.ListN.{set, replicate}
use Rattle.common.specs.Iter.{iter}
use Rattle.tile_order.proofs.straight.Given as goal

abbrev pub invariant-loop-i : goal.invariant-loop-i
invariant-loop-i l = l.order ≡ iter (λ k o. set o k k) (replicate 10 0) l.i
