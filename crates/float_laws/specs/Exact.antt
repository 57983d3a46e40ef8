-- The exact value of a finite f64, as a whole number of 2 ^ -1074. Assumes nothing.
use Rattle.std.specs.Prelude.{◌≡◌, refl, ℕ, zero, suc, ◌+◌, ◌-◌, ◌^◌, ◌<◌, Bool, true, false, cond, ℤ, pos, neg_ℤ, ◌<ℤ◌, T, Float}
use Rattle.std.proofs.Common.{arith, lt→ltb}
use Rattle.std.specs.Int.Signed.{lt_z_yes}
use Rattle.std.specs.Float.{nan, inf, fin, Format, binary64}
use Rattle.std.specs.Float.Ieee.{low, lt, fits}
use Rattle.std.specs.Float.Ieee.Exact.{HasValue}
use Rattle.std.specs.Float.Ieee.Scale.{finite}
use Rattle.float.specs.Ops.{abs}
use Rattle.float_laws.specs.Place.{mag, mid, side, place, mag_exact, mag_lt}
use Rattle.float_laws.specs.Order.{held, lt_up}
use Rattle.float_laws.specs.Signs.{plus}

-- n, or -n where s is true
abbrev pub signed : Bool → ℕ → ℤ
signed s n = cond s (neg_ℤ (pos n)) (pos n)

-- x is exact x times 2 ^ -1074; a NaN and an infinity have none, and count as 0
unfoldable pub exact : Float → ℤ
exact nan = pos 0
exact (inf s) = pos 0
exact (fin s m e) = signed s (mag binary64 (fin s m e))

-- `mag` is what it says: a finite value of the format is ± mag / 2 ^ low
pub mag_value : (f : Format) (s : Bool) (m : ℕ) (e : ℤ) → T (fits f (fin s m e)) → HasValue (fin s m e) s (mag f (fin s m e)) (2 ^ low f)
mag_value f s m e h = (refl, mag_exact f s e m h)

-- of a value with the sign + it is the size
pub exact_plus : (x : Float) → T (finite x) → T (plus x) → exact x ≡ pos (mag binary64 x)
unfolding exact
exact_plus nan p q = absurd p
exact_plus (inf s) p q = absurd p
exact_plus (fin true m e) p q = absurd q
exact_plus (fin false m e) p q = refl

-- of |x| it is the size of x
pub exact_abs : (x : Float) → T (finite x) → exact (abs x) ≡ pos (mag binary64 x)
unfolding exact abs mag
exact_abs nan p = absurd p
exact_abs (inf s) p = absurd p
exact_abs (fin s m e) p = refl
