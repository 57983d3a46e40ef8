-- acos: D, its whole square root, sixty terms, one rounding. Whole numbers are ℕ, scaled by 2 ^ 60: none is negative, and division truncates. Definitions only.
use Rattle.std.specs.Prelude.{ℕ, zero, suc, ◌+◌, ◌-◌, ◌*◌, ◌/◌, ◌^◌, Bool, false, cond, ◌&&◌, from_bits, Float, Option, Some, None}
use Rattle.std.specs.Float.{binary64}
use Rattle.std.specs.Float.Ieee.{round, le}
use Rattle.common.specs.Floats.{one}
use Rattle.wide.specs.Isqrt.{isqrt}
use Rattle.angles.specs.Angles.{size_of}

-- +0
abbrev pub none : Float
none = from_bits binary64 0

-- from 0 to 1, which no NaN is
unfoldable pub in_unit : Float → Bool
in_unit w = le none w && le w one

-- D, 2 ^ 60 less the truncated w × 2 ^ 60
abbrev pub short_of : Float → ℕ
short_of w = 2 ^ 60 - size_of w

-- s, the whole square root of D × 2 ^ 59
abbrev pub root_of : ℕ → ℕ
root_of d = isqrt (d * 2 ^ 59)

-- the next p: p × h / 2 ^ 60, where h is D / 2, then × (2n + 1) / (2n + 2)
abbrev pub arc_next : ℕ → ℕ → ℕ → ℕ
arc_next h n p = p * h / 2 ^ 60 * (2 * n + 1) / (2 * n + 2)

-- p at n, from s
unfoldable pub arc_term : ℕ → ℕ → ℕ → ℕ
arc_term h s zero = s
arc_term h s (suc n) = arc_next h n (arc_term h s n)

-- the sum of p / (2n + 1) for the n below the last argument
unfoldable pub arc_sum : ℕ → ℕ → ℕ → ℕ
arc_sum h s zero = 0
arc_sum h s (suc n) = arc_sum h s n + arc_term h s n / (2 * n + 1)

-- twice the sum over 2 ^ 60, to nearest even
unfoldable pub arc_of : Float → Float
arc_of w = let d = short_of w in round binary64 false (2 * arc_sum (d / 2) (root_of d) 60) (2 ^ 60)

-- acos, for every float
unfoldable pub acos_of : Float → Option Float
acos_of w = cond (in_unit w) (Some (arc_of w)) None
