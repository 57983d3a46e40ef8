-- The exact partial sums at r, as fractions of whole numbers, and what it means that an answer lies within 2 ^ -50 of one. Definitions only.
use Rattle.std.specs.Prelude.{◌≡◌, ℕ, zero, suc, ◌*◌, ◌^◌, ◌≤◌, Bool, false, T, ℤ, pos, ◌+ℤ◌, ◌-ℤ◌, ◌*ℤ◌, neg_ℤ, unsigned_abs, Float, Option, Some}
use Rattle.std.specs.Float.{nan, inf, fin}
use Rattle.std.specs.Float.Ieee.Positive.{num, den}
use Rattle.std.specs.Float.Ieee.Scale.{finite}
use Rattle.angles.specs.Angles.{signed, divisor, alternate, quarters, rest, mod4}

-- top / bottom
pub record Fraction : Type 0 where
  pub top : ℤ
  pub bottom : ℕ

-- a series so far: its last term and its sum, over one bottom
pub record Sum : Type 0 where
  pub term : ℤ
  pub sum : ℤ
  pub bottom : ℕ

-- the terms 0 to n of the series that starts at t / 2 ^ 60, at r / 2 ^ 60: each next is (last × r × r) / 2 ^ 120, over the divisor, and nothing is cut off
unfoldable pub exactly : ℕ → ℤ → ℤ → ℕ → Sum
exactly c r t zero = record { term = t; sum = t; bottom = 2 ^ 60 }
exactly c r t (suc j) =
    let f = exactly c r t j in
    let k = 2 ^ 60 * 2 ^ 60 * divisor c j in
    let n = f.term *ℤ r *ℤ r in
    record { term = n; sum = f.sum *ℤ pos k +ℤ alternate (suc j) n; bottom = f.bottom * k }

-- the partial sum of the sine's series, and of the cosine's
abbrev pub exact_sine : ℤ → Fraction
exact_sine r = let f = exactly 1 r r 8 in record { top = f.sum; bottom = f.bottom }

abbrev pub exact_cosine : ℤ → Fraction
exact_cosine r = let f = exactly 0 r (pos (2 ^ 60)) 8 in record { top = f.sum; bottom = f.bottom }

-- negated
abbrev pub neg_f : Fraction → Fraction
neg_f f = record { top = neg_ℤ f.top; bottom = f.bottom }

-- the ring of four
unfoldable pub exact_ring : ℕ → ℤ → Fraction
exact_ring zero r = exact_sine r
exact_ring (suc zero) r = exact_cosine r
exact_ring (suc (suc zero)) r = neg_f (exact_sine r)
exact_ring (suc (suc (suc k))) r = neg_f (exact_cosine r)

-- the partial sum that sin takes at X, and that cos takes
abbrev pub exact_sin : ℤ → Fraction
exact_sin x = exact_ring (mod4 (quarters x)) (rest x)

abbrev pub exact_cos : ℤ → Fraction
exact_cos x = exact_ring (mod4 (quarters x +ℤ pos 1)) (rest x)

-- whether a finite float's sign is minus
abbrev pub is_minus : Float → Bool
is_minus nan = false
is_minus (inf s) = false
is_minus (fin s m e) = s

-- a finite float's value; `num` / `den` is its size as a fraction
abbrev pub value_of : Float → Fraction
value_of x = record { top = signed (is_minus x) (num x); bottom = den x }

-- f and g differ by at most 2 ^ -50
abbrev pub Within50 : Fraction → Fraction → Type 0
Within50 f g = unsigned_abs (f.top *ℤ pos g.bottom -ℤ g.top *ℤ pos f.bottom) * 2 ^ 50 ≤ f.bottom * g.bottom

-- the answer is a finite float within 2 ^ -50 of f
pub record Near (a : Option Float) (f : Fraction) : Type 0 where
  pub value : Float
  pub is : a ≡ Some value
  pub number : T (finite value)
  pub within : Within50 (value_of value) f
