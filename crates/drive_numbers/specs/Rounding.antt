-- The rounding rule of a part's number, and what code has of a part. Definitions only. x is exact x times 2 ^ -1074, and a unit 2 ^ weight of these.
use Rattle.std.specs.Prelude.{◌≡◌, ℕ, ◌*◌, ◌-◌, ◌%◌, ◌^◌, ◌≤◌, not, ℤ, pos, nat_abs, ◌-ℤ◌, ◌*ℤ◌, T, Float}
use Rattle.std.specs.Float.Ieee.{binary64, lt, to_bits, of_bits, is_nan}
use Rattle.std.specs.Float.Ieee.Scale.{finite}
use Rattle.float_laws.specs.Exact.{exact}
use Rattle.drive_numbers.specs.declared.Unit.{Unit}
use Rattle.drive_numbers.specs.Numbers.{weight, in_range, placed, part}

-- twice the distance of n units from z
abbrev pub apart : ℕ → ℤ → ℤ → ℕ
apart u n z = 2 * nat_abs (n *ℤ pos u -ℤ z)

-- n units are within half a unit of z, and where they are just half a unit off, n is even
pub record Nearest (u : ℕ) (n z : ℤ) : Type 0 where
  pub within : apart u n z ≤ u
  pub tie : apart u n z ≡ u → nat_abs n % 2 ≡ 0

-- the rounding rule: n is the number exactly where x is finite, 32 bits hold n, and n units are within half a unit of x, just half a unit off only for an even n
pub record Numbered (x : Float) (u : Unit) (n : ℤ) : Type 0 where
  pub fine : T (finite x)
  pub in_range_law : T (in_range n)
  pub nearest : Nearest (2 ^ weight u) n (exact x)

-- what code has of a part: a sum's pattern p, the pattern o of the power of two, and the number
pub record Counted (x z : Float) (o : ℕ) (u : Unit) : Type 0 where
  pub number : T (not (is_nan z))
  pub from : o ≤ to_bits binary64 z
  pub small : to_bits binary64 z - o ≤ 2 ^ 32
  pub is : placed (lt x (of_bits binary64 0)) (to_bits binary64 z - o) ≡ part x u
