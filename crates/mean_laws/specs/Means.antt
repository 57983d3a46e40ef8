-- The weighted mean of two f64, and what is said of it. Definitions only.
use Rattle.std.specs.Prelude.{ℕ, ◌+◌, ◌*◌, ◌^◌, ◌≤◌, max, nat_abs, T, Float}
use Rattle.std.specs.Float.{Format, binary64}
use Rattle.std.specs.Float.Ieee.{add, sub, mul, le, fits}
use Rattle.std.specs.Float.Ieee.Scale.{finite}
use Rattle.common.specs.Floats.{one}
use Rattle.common.specs.Floats.{plus_zero}
use Rattle.float_laws.specs.Exact.{exact}

-- a finite value of the format f; a finite f64
pub record Value (f : Format) (x : Float) : Type 0 where
  pub fit : T (fits f x)
  pub fine : T (finite x)

abbrev pub Plain : Float → Type 0
Plain x = Value binary64 x

-- a fraction: an f64 from 0 to 1, a zero of either sign among them
pub record Fraction (x : Float) : Type 0 where
  pub fit : T (fits binary64 x)
  pub from0 : T (le plus_zero x)
  pub upto1 : T (le x one)

-- the mean of a and b, the fraction x of the way from a to b, rounded at each step
abbrev pub mean : Float → Float → Float → Float
mean a b x = add binary64 (mul binary64 a (sub binary64 one x)) (mul binary64 b x)

-- the size of x as an exact number: a whole number of 2 ^ -1074
abbrev pub size : Float → ℕ
size x = nat_abs (exact x)

-- w is finite, and in size at most the larger of a and b times 1 + 2 ^ -50, plus 2 ^ -1070; both sides times 2 ^ 50, in whole numbers of 2 ^ -1074
pub record Bounded (a b w : Float) : Type 0 where
  pub fine : T (finite w)
  pub within : 2 ^ 50 * size w ≤ (2 ^ 50 + 1) * max (size a) (size b) + 2 ^ 50 * 16
