-- A float beside a stored word. Assumes nothing.
use Rattle.std.proofs.Common.{◌≡◌, ℕ, true, false, not, T, eqb, sym, true≢false}
use lib.Ieee.{Float, nan, inf, fin, binary64, of_bits, to_bits, eq, ne, is_nan}
use Rattle.cases.specs.Words.{same}

-- what equals itself is no NaN
pub equals_itself : (x : Float) → eq x x ≡ true → T (not (is_nan x))
unfolding is_nan eq
equals_itself nan h = absurd (true≢false (sym h))
equals_itself (inf s) h = tt
equals_itself (fin s m e) h = tt

module _ (x : Float) (w v : ℕ) (e : w ≡ v) where
  -- a float that is no NaN is told by its bits
  pub by_bits : eq x x ≡ true → eqb (to_bits binary64 x) w ≡ same v x
  unfolding same
  by_bits h = rw (h, e)

  -- a NaN is told by a NaN
  pub by_nan : eq x x ≡ false → (y : Float) → y ≡ of_bits binary64 w → ne y y ≡ same v x
  unfolding same
  by_nan h y p = rw (h, p, e)
