-- The series of `Angles` at a signed number are those of `SizesInner` with a sign, and so is the ring of four. One law serves the sine (c = 1) and the cosine (c = 0).
-- Assumes nothing.
use Rattle.std.specs.Prelude.{◌≡◌, ℕ, zero, suc, ◌+◌, ◌-◌, ◌*◌, ◌/◌, ◌^◌, ◌<◌, ◌≤◌, Bool, true, false, cond, not, ℤ, pos, negsuc, ◌+ℤ◌, ◌*ℤ◌, neg_ℤ, int_div, refl}
use Rattle.std.proofs.Common.{sym, ap, ap₂, ◌∙◌, mul-zero, zero-mul, add-zero, le_refl, le_trans, le_of_lt, le_of_eq, mul_comm, mul-le-mul_left, div-le_self, arith, le-ltb}
use Rattle.std.proofs.Math.Nat.{zero-div, sub-zero, div-le_of_le-mul}
use Rattle.std.proofs.Math.IntN.{neg_ℤ-+ℤ, neg_ℤ-neg_ℤ}
use Rattle.std.specs.Float.Ieee.{unlike}
use Rattle.angles.specs.Angles.{signed, mul_shift, divisor, term, alternate, series, sine, cosine, ring}
use Rattle.angles.specs.SizesInner.{next_of, term_of, alter, sum_of, negative_at, size_at}

-- ---- terms do not grow

pub shift_le : (t u : ℕ) → u < 2 ^ 60 → t * u / 2 ^ 60 ≤ t
shift_le t u h = div-le_of_le-mul (2 ^ 60) (le_trans (mul-le-mul_left t (le_of_lt h)) (le_of_eq (mul_comm t (2 ^ 60))))

pub shifts_le : (t u : ℕ) → u < 2 ^ 60 → t * u / 2 ^ 60 * u / 2 ^ 60 ≤ t
shifts_le t u h = le_trans (shift_le (t * u / 2 ^ 60) u h) (shift_le t u h)

pub next_le : (t u d : ℕ) → u < 2 ^ 60 → next_of u d t ≤ t
next_le t u d h = le_trans (div-le_self (t * u / 2 ^ 60 * u / 2 ^ 60) d) (shifts_le t u h)

-- ---- a sign goes through each operation

quot_signed : (s : Bool) (a d : ℕ) → int_div (signed s a) (pos d) ≡ signed s (a / d)
quot_signed false a d = refl
quot_signed true zero d = ap pos (zero-div d) ∙ sym (ap (λ (n : ℕ). neg_ℤ (pos n)) (zero-div d))
quot_signed true (suc a) d = refl

pub mul_signed : (s t : Bool) (a b : ℕ) → signed s a *ℤ signed t b ≡ signed (unlike s t) (a * b)
mul_signed false false a b = refl
mul_signed false true a zero = ap pos (mul-zero a) ∙ sym (ap (λ (n : ℕ). neg_ℤ (pos n)) (mul-zero a))
mul_signed false true a (suc b) = refl
mul_signed true false zero b = ap pos (zero-mul b) ∙ sym (ap (λ (n : ℕ). neg_ℤ (pos n)) (zero-mul b))
mul_signed true false (suc a) b = refl
mul_signed true true zero zero = refl
mul_signed true true zero (suc b) = ap (λ (n : ℕ). neg_ℤ (pos n)) (zero-mul (suc b)) ∙ sym (ap pos (zero-mul (suc b)))
mul_signed true true (suc a) zero = ap (λ (n : ℕ). neg_ℤ (pos n)) (mul-zero (suc a)) ∙ sym (ap pos (mul-zero (suc a)))
mul_signed true true (suc a) (suc b) = refl

shift_signed : (s t : Bool) (a b : ℕ) → mul_shift (signed s a) (signed t b) ≡ signed (unlike s t) (a * b / 2 ^ 60)
unfolding mul_shift
shift_signed s t a b = ap (λ (z : ℤ). int_div z (pos (2 ^ 60))) (mul_signed s t a b) ∙ quot_signed (unlike s t) (a * b) (2 ^ 60)

pub twice_unlike : (s t : Bool) → unlike (unlike t s) s ≡ t
twice_unlike false false = refl
twice_unlike false true = refl
twice_unlike true false = refl
twice_unlike true true = refl

pub next_signed : (s t : Bool) (a u d : ℕ) → int_div (mul_shift (mul_shift (signed t a) (signed s u)) (signed s u)) (pos d) ≡ signed t (next_of u d a)
next_signed s t a u d =
    ap (λ (z : ℤ). int_div (mul_shift z (signed s u)) (pos d)) (shift_signed t s a u)
    ∙ ap (λ (z : ℤ). int_div z (pos d)) (shift_signed (unlike t s) s (a * u / 2 ^ 60) u ∙ ap (λ (b : Bool). signed b (a * u / 2 ^ 60 * u / 2 ^ 60)) (twice_unlike s t))
    ∙ quot_signed t (a * u / 2 ^ 60 * u / 2 ^ 60) d

pub add_signed : (s : Bool) (a b : ℕ) → signed s a +ℤ signed s b ≡ signed s (a + b)
add_signed false a b = refl
add_signed true a b = sym (neg_ℤ-+ℤ (pos a) (pos b))

sub_pos : (a b : ℕ) → b ≤ a → pos a +ℤ neg_ℤ (pos b) ≡ pos (a - b)
sub_pos a zero h = ap pos (add-zero a ∙ sym (sub-zero a))
sub_pos a (suc b) h = ap (λ (t : Bool). cond t (negsuc (suc b - suc a)) (pos (a - suc b))) (le-ltb a (suc b) h)

pub sub_signed : (s : Bool) (a b : ℕ) → b ≤ a → signed s a +ℤ neg_ℤ (signed s b) ≡ signed s (a - b)
sub_signed false a b h = sub_pos a b h
sub_signed true a b h = sym (neg_ℤ-+ℤ (pos a) (neg_ℤ (pos b))) ∙ ap neg_ℤ (sub_pos a b h)

-- ---- the series, term by term

pub eight : (z : ℤ) → alternate 8 z ≡ z
unfolding alternate
eight z = neg_ℤ-neg_ℤ _ ∙ neg_ℤ-neg_ℤ _ ∙ neg_ℤ-neg_ℤ _ ∙ neg_ℤ-neg_ℤ z

-- after term n, which is t, the sum s holds the next, or has room for it below the first term a
abbrev pub Held : ℕ → ℕ → ℕ → ℕ → Type 0
Held a zero s t = (t ≤ s) × (s ≤ a)
Held a (suc zero) s t = s + t ≤ a
Held a (suc (suc n)) s t = Held a n s t

advance : (a n s t v : ℕ) → v ≤ t → Held a n s t → Held a (suc n) (alter n s v) v
advance a zero s t v l h = omega arith
advance a (suc zero) s t v l h = (omega arith, omega arith)
advance a (suc (suc n)) s t v l h = advance a n s t v l h

pub held : (c u a : ℕ) → u < 2 ^ 60 → (n : ℕ) → Held a n (sum_of c u a n) (term_of c u a n)
unfolding sum_of term_of
held c u a h zero = (le_refl a, le_refl a)
held c u a h (suc n) = advance a n (sum_of c u a n) (term_of c u a n) (term_of c u a (suc n)) (next_le (term_of c u a n) u (divisor c n) h) (held c u a h n)

altered : (t : Bool) (a n s p v : ℕ) → v ≤ p → Held a n s p → signed t s +ℤ alternate (suc n) (signed t v) ≡ signed t (alter n s v)
unfolding alternate
altered t a zero s p v l h = sub_signed t s v (le_trans l h.0)
altered t a (suc zero) s p v l h = ap (λ (z : ℤ). signed t s +ℤ z) (neg_ℤ-neg_ℤ (signed t v)) ∙ add_signed t s v
altered t a (suc (suc n)) s p v l h = ap (λ (z : ℤ). signed t s +ℤ z) (neg_ℤ-neg_ℤ (alternate (suc n) (signed t v))) ∙ altered t a n s p v l h

pub term_is : (c : ℕ) (s t : Bool) (u a n : ℕ) → term c (signed s u) (signed t a) n ≡ signed t (term_of c u a n)
unfolding term term_of
term_is c s t u a zero = refl
term_is c s t u a (suc n) = ap (λ (z : ℤ). int_div (mul_shift (mul_shift z (signed s u)) (signed s u)) (pos (divisor c n))) (term_is c s t u a n) ∙ next_signed s t (term_of c u a n) u (divisor c n)

pub series_is : (c : ℕ) (s t : Bool) (u a : ℕ) → u < 2 ^ 60 → (n : ℕ) → series c (signed s u) (signed t a) n ≡ signed t (sum_of c u a n)
unfolding series sum_of term_of
series_is c s t u a h zero = refl
series_is c s t u a h (suc n) =
    ap₂ (λ (x y : ℤ). x +ℤ alternate (suc n) y) (series_is c s t u a h n) (term_is c s t u a (suc n))
    ∙ altered t a n (sum_of c u a n) (term_of c u a n) (term_of c u a (suc n)) (next_le (term_of c u a n) u (divisor c n) h) (held c u a h n)

pub sine_is : (s : Bool) (u : ℕ) → u < 2 ^ 60 → sine (signed s u) ≡ signed s (sum_of 1 u u 8)
unfolding sine
sine_is s u h = series_is 1 s s u u h 8

pub cosine_is : (s : Bool) (u : ℕ) → u < 2 ^ 60 → cosine (signed s u) ≡ pos (sum_of 0 u (2 ^ 60) 8)
unfolding cosine
cosine_is s u h = series_is 0 s false u (2 ^ 60) h 8

-- ---- the ring

pub negated : (b : Bool) (n : ℕ) → signed (not b) n ≡ neg_ℤ (signed b n)
negated false n = refl
negated true n = sym (neg_ℤ-neg_ℤ (pos n))

pub ring_is : (q : ℕ) (b : Bool) (u : ℕ) → q < 4 → u < 2 ^ 60 → ring q (signed b u) ≡ signed (negative_at q b) (size_at q u)
unfolding ring
ring_is zero b u l h = sine_is b u h
ring_is (suc zero) b u l h = cosine_is b u h
ring_is (suc (suc zero)) b u l h = ap neg_ℤ (sine_is b u h) ∙ sym (negated b (sum_of 1 u u 8))
ring_is (suc (suc (suc zero))) b u l h = ap neg_ℤ (cosine_is b u h)
ring_is (suc (suc (suc (suc q)))) b u l h = absurd (no_more q l)
  where
    no_more : (q : ℕ) → suc (suc (suc (suc q))) < 4 → ⊥
    no_more q l = omega arith
