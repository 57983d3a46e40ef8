-- sin and cos: the argument, its reduction, the two series, the ring of four, one rounding. Whole numbers are ℤ, scaled by 2 ^ 60, and division (`quot_z`)
-- truncates toward zero. Definitions only.
use Rattle.std.specs.Prelude.{ℕ, zero, suc, ◌+◌, ◌-◌, ◌*◌, ◌/◌, ◌%◌, ◌^◌, Bool, true, false, cond, ◌&&◌, ℤ, pos, negsuc, ◌+ℤ◌, ◌-ℤ◌, ◌*ℤ◌, neg_ℤ, from_bits, int_div, Float, Option, Some, None}
use Rattle.std.specs.Int.Signed.{shr_z}
use Rattle.std.specs.Float.{nan, inf, fin, binary64}
use Rattle.std.specs.Float.Ieee.{round, lt, le, neg}
use Rattle.std.specs.Float.Ieee.Positive.{num, den}
use Rattle.common.specs.Floats.{one}
use Rattle.angles.specs.declared.Zone.{Zone}
use Rattle.angles.specs.declared.Zone.TheVariants as Zone

-- n, or -n where s is true
abbrev pub signed : Bool → ℕ → ℤ
signed false n = pos n
signed true n = neg_ℤ (pos n)

-- ---- the range

-- 1,024
abbrev pub most : Float
most = from_bits binary64 0x4090_0000_0000_0000

-- 2 ^ -26
abbrev pub least : Float
least = from_bits binary64 0x3e50_0000_0000_0000

-- the size is at most 1,024, which no NaN's is
unfoldable pub in_range : Float → Bool
in_range x = le (neg most) x && le x most

-- the size is below 2 ^ -26
unfoldable pub tiny : Float → Bool
tiny x = lt (neg least) x && lt x least

-- outside, tiny, or between
unfoldable pub region_of : Float → Zone
region_of x = cond (in_range x) (cond (tiny x) Zone.Tiny Zone.Inside) Zone.Outside

-- ---- the argument and its reduction

-- the size of a float times 2 ^ 60, truncated; `num` / `den` is a finite float's size as a fraction
abbrev pub size_of : Float → ℕ
size_of x = num x * 2 ^ 60 / den x

-- X, the argument times 2 ^ 60, truncated
unfoldable pub scaled : Float → ℤ
scaled nan = pos 0
scaled (inf s) = pos 0
scaled (fin s m e) = signed s (size_of (fin s m e))

-- a quarter turn
abbrev pub Q : ℕ
Q = 0x1921FB54442D1847

-- k, X / Q to the nearest whole number, a half upward: the whole part, rounded down (`shr_z`), of (2X + Q) / 2Q
unfoldable pub quarters : ℤ → ℤ
quarters x = shr_z (x +ℤ x +ℤ pos Q) (2 * Q)

-- r, X less k × Q
unfoldable pub rest : ℤ → ℤ
rest x = x -ℤ quarters x *ℤ pos Q

-- a whole number modulo 4, from 0 to 3
unfoldable pub mod4 : ℤ → ℕ
mod4 (pos n) = n % 4
mod4 (negsuc n) = 3 - n % 4

-- ---- the two series

-- a product of two scaled numbers
unfoldable pub mul_shift : ℤ → ℤ → ℤ
mul_shift a b = int_div (a *ℤ b) (pos (2 ^ 60))

-- the divisor of term i = j + 1: 2i(2i + 1) for the sine, where c is 1, and (2i - 1)2i for the cosine, where c is 0
abbrev pub divisor : ℕ → ℕ → ℕ
divisor c j = (2 * j + 1 + c) * (2 * j + 2 + c)

-- term j of the series that starts at t
unfoldable pub term : ℕ → ℤ → ℤ → ℕ → ℤ
term c r t zero = t
term c r t (suc j) = int_div (mul_shift (mul_shift (term c r t j) r) r) (pos (divisor c j))

-- signs alternate
unfoldable pub alternate : ℕ → ℤ → ℤ
alternate zero z = z
alternate (suc j) z = neg_ℤ (alternate j z)

-- the sum of terms 0 to n
unfoldable pub series : ℕ → ℤ → ℤ → ℕ → ℤ
series c r t zero = t
series c r t (suc j) = series c r t j +ℤ alternate (suc j) (term c r t (suc j))

-- the term r and eight more
unfoldable pub sine : ℤ → ℤ
sine r = series 1 r r 8

-- the term 2 ^ 60 and eight more
unfoldable pub cosine : ℤ → ℤ
cosine r = series 0 r (pos (2 ^ 60)) 8

-- ---- the answers

-- the ring of four: sine, cosine, negated sine, negated cosine
unfoldable pub ring : ℕ → ℤ → ℤ
ring zero r = sine r
ring (suc zero) r = cosine r
ring (suc (suc zero)) r = neg_ℤ (sine r)
ring (suc (suc (suc k))) r = neg_ℤ (cosine r)

-- n / 2 ^ 60 to nearest even, a zero being positive
unfoldable pub to_float : ℤ → Float
to_float (pos n) = round binary64 false n (2 ^ 60)
to_float (negsuc n) = round binary64 true (suc n) (2 ^ 60)

-- the sum at X that sin takes, and the next of the ring, which cos takes
abbrev pub sine_at : ℤ → ℤ
sine_at x = ring (mod4 (quarters x)) (rest x)

abbrev pub cosine_at : ℤ → ℤ
cosine_at x = ring (mod4 (quarters x +ℤ pos 1)) (rest x)

-- sin by region: below 2 ^ -26 the argument itself
abbrev pub sin_by : Zone → Float → Option Float
sin_by Zone.Outside x = None
sin_by Zone.Tiny x = Some x
sin_by Zone.Inside x = Some (to_float (sine_at (scaled x)))

-- cos by region: below 2 ^ -26 it is 1
abbrev pub cos_by : Zone → Float → Option Float
cos_by Zone.Outside x = None
cos_by Zone.Tiny x = Some one
cos_by Zone.Inside x = Some (to_float (cosine_at (scaled x)))

-- sin, for every float
unfoldable pub sin_of : Float → Option Float
sin_of x = sin_by (region_of x) x

-- cos, for every float
unfoldable pub cos_of : Float → Option Float
cos_of x = cos_by (region_of x) x
