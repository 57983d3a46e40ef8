-- The recipes over sizes (natural numbers), as the code works them out. The laws beside tie them to `Angles` and `Arcs`. Definitions only.
use Rattle.std.specs.Prelude.{◌≡◌, ℕ, zero, suc, ◌+◌, ◌-◌, ◌*◌, ◌/◌, ◌^◌, ◌<◌, ◌≤◌, Bool, true, false, not, Float}
use Rattle.angles.specs.declared.arc.Arc.{Arc}
use Rattle.angles.specs.Angles.{signed, divisor, Q, scaled, quarters, rest, mod4}
use Rattle.angles.specs.Arcs.{arc_term, arc_sum}

-- ---- the two series

-- the next term's size
abbrev pub next_of : ℕ → ℕ → ℕ → ℕ
next_of u d t = t * u / 2 ^ 60 * u / 2 ^ 60 / d

-- the upper word of (16u)²
abbrev pub square_of : ℕ → ℕ
square_of u = u * 16 * (u * 16) / 2 ^ 64

-- a lower word of `least` has room for what one product for a term after t, with the divisor d, leaves out and is too large by
pub record Roomy (t u d least : ℕ) : Type 0 where
  pub over : 2 * t ≤ least
  pub left : u * 16 ≤ (least - 2 * t) * d

-- term j, which is t, is small beside u, and the divisor d of the next large enough
pub record Small (j t u d : ℕ) : Type 0 where
  pub third : 2 ≤ j → (t * 24 ≤ u) × (30 ≤ d)
  pub fourth : 3 ≤ j → (t * 720 ≤ u) × (56 ≤ d)
  pub later : 4 ≤ j → (t * 40320 ≤ u) × (90 ≤ d)

-- the size of term n of the series that starts at t: the sine's where c is 1, the cosine's where it is 0
unfoldable pub term_of : ℕ → ℕ → ℕ → ℕ → ℕ
term_of c u t zero = t
term_of c u t (suc n) = next_of u (divisor c n) (term_of c u t n)

-- term n + 1, which is t, taken off the sum s or added
abbrev pub alter : ℕ → ℕ → ℕ → ℕ
alter zero s t = s - t
alter (suc zero) s t = s + t
alter (suc (suc n)) s t = alter n s t

-- the sum of the terms 0 to n
unfoldable pub sum_of : ℕ → ℕ → ℕ → ℕ → ℕ
sum_of c u t zero = t
sum_of c u t (suc n) = alter n (sum_of c u t n) (term_of c u t (suc n))

-- ---- the ring

-- whether place q is negative, at a rest that is negative where b is true
abbrev pub negative_at : ℕ → Bool → Bool
negative_at zero b = b
negative_at (suc zero) b = false
negative_at (suc (suc zero)) b = not b
negative_at (suc (suc (suc q))) b = true

-- its size, at a rest of the size u
abbrev pub size_at : ℕ → ℕ → ℕ
size_at zero u = sum_of 1 u u 8
size_at (suc zero) u = sum_of 0 u (2 ^ 60) 8
size_at (suc (suc q)) u = size_at q u

-- ---- the reduction

-- y is k quarters and u more, or u less where b is true, and u is below an eighth turn
abbrev pub TurnOf : ℕ → ℕ → ℕ → Bool → Type 0
TurnOf y k u false = (2 * u < Q) × (y ≡ k * Q + u)
TurnOf y k u true = (2 * u < Q) × (y + u ≡ k * Q)

-- q is the argument's quarters, modulo 4, and u with the sign b its rest
pub record Reduced (x : Float) (q : ℕ) (b : Bool) (u : ℕ) : Type 0 where
  pub quarter : q ≡ mod4 (quarters (scaled x))
  pub rests : signed b u ≡ rest (scaled x)
  pub four : q < 4
  pub small : u < 2 ^ 60

-- ---- acos

-- the first n terms are summed
pub record ArcAt (h s n : ℕ) (a : Arc) : Type 0 where
  pub summed : a.sum ≡ arc_sum h s n
  pub next : a.p ≡ arc_term h s n

-- with room for the terms to come
pub record ArcFits (n : ℕ) (a : Arc) : Type 0 where
  pub room : a.sum + 2 * a.p ≤ 2 ^ 61
  pub small : (2 * n + 1) * a.p ≤ 2 ^ 60
