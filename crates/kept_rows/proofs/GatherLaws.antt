-- The rows of 28, gathered. Assumes nothing.
use Prim.Native.Nat.{◌≤◌}
use Rattle.std.proofs.Common.{arith}
use Rattle.std.specs.Prelude.{refl, List, length, Float}
use Rattle.common.specs.Iter.{iter}
use Rattle.kept_rows.specs.Kept.{Gathered}
use Rattle.kept_rows.specs.ZeroLaws.{short_out, last_short_kept}
use Rattle.kept_rows.specs.GatherLaws.{Upto, upto_out, upto_first, upto_moved, gathered_of, move_turn}

module _ (r : List Float) where
  -- the last five of 28
  pub gathered_short : 28 ≤ length r → Gathered 28 r (iter (move_turn 23 6) r 5)
  gathered_short room =
      let passed : Upto 28 23 r r = upto_out 28 r 6 23 r (omega arith) short_out (upto_first 28 r) in
      gathered_of (upto_moved 28 r 23 r 6 5 refl (λ i a b. last_short_kept i a) room passed).1
