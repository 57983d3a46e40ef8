-- The bit pattern of a float from 2 ^ -26 to 2 ^ 10: its exponent's field and its digits give the float times 2 ^ 60, truncated. Assumes nothing.
use Rattle.std.proofs.Common.{◌≡◌, ℕ, zero, suc, ◌+◌, ◌-◌, ◌*◌, ◌/◌, ◌%◌, ◌^◌, ◌<◌, ◌≤◌, Bool, true, false, cond, not, T, eqb, leb, pos, negsuc, sym, refl, ap, ◌∙◌, subst, le_trans, le_of_eq, lt_of_lt_of_le, le-add_right, lt_of_le_of_lt, lt_irrefl, mul-le-mul_right, mod-lt, mod-eq_of_lt, mul_assoc, mul_comm, lt_of_not-le, mul_right_comm, le_of_mul-le-mul_right, arith, lit<, lit≤, pow_pos, pow_mono, pow-add, shl_lt, shl_exact, shr-shr}
use lib.Dec.{nleb→lt}
use lib.Pow.{shl-shr}
use lib.Bits.{bit_and, bit_or, and_mask, or_shifted_r}
use lib.Ieee.{Float, nan, inf, fin, binary64, odd, fits, is_nan, of_fields, of_bits, to_bits, le}
use lib.Ieee.Bits.{of_bits-to_bits}
use lib.Ieee.Exact.{HasValue, odd_sign}
use lib.Ieee.Nearest.{div_same}
use lib.Ieee.Positive.{num, den, positive, den_pos, value→cross, between, le→cross}
use Rattle.angles.specs.Angles.{size_of}

abbrev pub least : Float
least = fin false 1 (negsuc 25)

abbrev pub most : Float
most = fin false 1 (pos 10)

-- finite and above zero, from 2 ^ -26 to 2 ^ 10
abbrev Within : Float → Type 0
Within x = T (positive x) × (den x ≤ num x * 2 ^ 26) × (num x ≤ 2 ^ 10 * den x)

within : (x : Float) → T (le least x) → T (le x most) → Within x
within x a b =
    let p : T (positive x) = between least x most tt tt a b in
    let l : 1 * den x ≤ num x * 2 ^ 26 = le→cross least x tt p a in
    let h : num x * 1 ≤ 2 ^ 10 * den x = le→cross x most p tt b in
    (p, omega arith, omega arith)

-- ---- the same fraction in units of 2 ^ -1074: n / d is a / l
module _ (n d a l : ℕ) (D : 0 < d) (v : n * l ≡ a * d) where
  units_ge : (p : ℕ) → d ≤ n * p → l ≤ a * p
  units_ge p h =
      le_of_mul-le-mul_right
      (le_trans (le_of_eq (mul_comm l d)) (le_trans (mul-le-mul_right l h) (le_of_eq (mul_right_comm n p l ∙ ap (λ (z : ℕ). z * p) v ∙ mul_right_comm a d p)))) D

  units_le : (p : ℕ) → n ≤ p * d → a ≤ p * l
  units_le p h = le_of_mul-le-mul_right (le_trans (le_of_eq (sym v)) (le_trans (mul-le-mul_right l h) (le_of_eq (mul_right_comm p d l)))) D

of_bits_is : (b : ℕ) → of_bits binary64 b ≡ of_fields binary64 (leb (2 ^ 63) b) (b % 2 ^ 63 / 2 ^ 52) (b % 2 ^ 52)
unfolding of_bits
of_bits_is b = refl

sign_of : (x : Float) (s : Bool) (a c : ℕ) → T (positive x) → HasValue x s a c → s ≡ false
sign_of nan s a c p h = absurd p
sign_of (inf t) s a c p h = absurd p
sign_of (fin true m e) s a c p h = absurd p
sign_of (fin false m e) s a c p h = sym h.0

abbrev Read : Bool → ℕ → ℕ → Float → Type 0
Read s x t v = (j : ℕ) × (x ≡ suc j) × (s ≡ false) × HasValue v false ((2 ^ 52 + t) * 2 ^ j) (2 ^ 1074)

clear : (v : Float) (s : Bool) (a c : ℕ) → T (positive v) → HasValue v s a c → HasValue v false a c
clear v s a c p h = subst (λ (k : Bool). HasValue v k a c) (sign_of v s a c p h) h

short : (t : ℕ) → t < 2 ^ 52 → 2 ^ 1074 ≤ t * 2 ^ 0 * 2 ^ 26 → ⊥
short t h k = lt_irrefl (2 ^ 1074) (lt_of_le_of_lt k (lt_of_lt_of_le (go t h) (lit≤ tt)))
  where
    go : (t : ℕ) → t < 2 ^ 52 → t * 2 ^ 0 * 2 ^ 26 < 2 ^ 78
    go t h = omega arith

at_top : (a b s : Bool) (v : Float) → T (positive (cond a (cond b (inf s) nan) v)) → T (not a)
at_top true true s v p = absurd p
at_top true false s v p = absurd p
at_top false b s v p = tt

past_top : (a : Bool) (u v : Float) → T (not a) → cond a u v ≡ v
past_top true u v n = absurd n
past_top false u v n = refl

read : (s : Bool) (x t : ℕ) → t < 2 ^ 52 → T (positive (of_fields binary64 s x t)) → den (of_fields binary64 s x t) ≤ num (of_fields binary64 s x t) * 2 ^ 26 → Read s x t (of_fields binary64 s x t)
unfolding of_fields
read s zero t h p g =
    let v = odd 53 s t 0 1074 in
    absurd (short t h (units_ge (num v) (den v) (t * 2 ^ 0) (2 ^ 1074) (den_pos v) (value→cross v (t * 2 ^ 0) (2 ^ 1074) (clear v s (t * 2 ^ 0) (2 ^ 1074) p (odd_sign 53 s t 0 1074))) (2 ^ 26) g))
read s (suc j) t h p g =
    let v = odd 53 s (2 ^ 52 + t) j 1074 in
    let u = cond (eqb t 0) (inf s) nan in
    let is : cond (eqb (suc j) 2047) u v ≡ v = past_top (eqb (suc j) 2047) u v (at_top (eqb (suc j) 2047) (eqb t 0) s v p) in
    let q : T (positive v) = subst (λ (k : Float). T (positive k)) is p in (
      j,
      refl,
      sign_of v s ((2 ^ 52 + t) * 2 ^ j) (2 ^ 1074) q (odd_sign 53 s (2 ^ 52 + t) j 1074),
      subst (λ (k : Float). HasValue k false ((2 ^ 52 + t) * 2 ^ j) (2 ^ 1074)) (sym is) (clear v s ((2 ^ 52 + t) * 2 ^ j) (2 ^ 1074) q (odd_sign 53 s (2 ^ 52 + t) j 1074)),
    )

pow_lt_back : (i p : ℕ) → 2 ^ i < 2 ^ p → i < p
pow_lt_back i p h = lt_of_not-le (λ (g : p ≤ i). lt_irrefl (2 ^ i) (lt_of_lt_of_le h (pow_mono g)))

with_lead : (t : ℕ) → t < 2 ^ 52 → 2 ^ 52 + t < 2 ^ 53
with_lead t h = omega arith

-- b's exponent's field is j + 1, and x times 2 ^ 60, truncated, is b's digits, under a leading one, times 2 ^ (j - 1014)
abbrev Shape : ℕ → Float → Type 0
Shape b x = (j : ℕ) × (b / 2 ^ 52 ≡ suc j) × (996 ≤ j) × (j ≤ 1032) × (size_of x ≡ (2 ^ 52 + b % 2 ^ 52) * 2 ^ j / 2 ^ 1014)

lower : (q j : ℕ) → q < 2 ^ 53 → 2 ^ 1074 ≤ q * 2 ^ j * 2 ^ 26 → 996 ≤ j
lower q j h k = go j (pow_lt_back 1074 (53 + j + 26) (lt_of_le_of_lt k (shl_lt (53 + j) 26 (shl_lt 53 j h))))
  where
    go : (j : ℕ) → 1074 < 53 + j + 26 → 996 ≤ j
    go j h = omega arith

upper : (t j : ℕ) → (2 ^ 52 + t) * 2 ^ j ≤ 2 ^ 10 * 2 ^ 1074 → j ≤ 1032
upper t j h = go j (pow_lt_back (52 + j) 1085 (lt_of_le_of_lt (le_trans (le_of_eq (pow-add 2 52 j)) (mul-le-mul_right (2 ^ j) (le-add_right (2 ^ 52) t))) (lt_of_le_of_lt h (lit< tt))))
  where
    go : (j : ℕ) → 52 + j < 1085 → j ≤ 1032
    go j h = omega arith

size_law : (n d a : ℕ) → 0 < d → n * 2 ^ 1074 ≡ a * d → n * 2 ^ 60 / d ≡ a / 2 ^ 1014
size_law n d a D v = div_same (n * 2 ^ 60) d a (2 ^ 1014) D (pow_pos 1014) (mul_assoc n (2 ^ 60) (2 ^ 1014) ∙ v)

shape_of : (b : ℕ) → Within (of_bits binary64 b) → Shape b (of_bits binary64 b)
shape_of b i =
    let x = of_bits binary64 b in
    let s = leb (2 ^ 63) b in
    let t = b % 2 ^ 52 in
    let q = 2 ^ 52 + t in
    let T52 : t < 2 ^ 52 = mod-lt b (pow_pos 52) in
    let r : Read s (b % 2 ^ 63 / 2 ^ 52) t x =
    subst (λ (k : Float). Read s (b % 2 ^ 63 / 2 ^ 52) t k) (sym (of_bits_is b))
    (read s (b % 2 ^ 63 / 2 ^ 52) t T52 (subst (λ (k : Float). T (positive k)) (of_bits_is b) i.0) (subst (λ (k : Float). den k ≤ num k * 2 ^ 26) (of_bits_is b) i.1)) in
    let j = r.0 in
    let small : b < 2 ^ 63 = nleb→lt (2 ^ 63) b (subst (λ (a : Bool). T (not a)) (sym r.2) tt) in
    let v : num x * 2 ^ 1074 ≡ q * 2 ^ j * den x = value→cross x (q * 2 ^ j) (2 ^ 1074) r.3 in (
      j,
      ap (λ (k : ℕ). k / 2 ^ 52) (sym (mod-eq_of_lt small)) ∙ r.1,
      lower q j (with_lead t T52) (units_ge (num x) (den x) (q * 2 ^ j) (2 ^ 1074) (den_pos x) v (2 ^ 26) i.1),
      upper t j (units_le (num x) (den x) (q * 2 ^ j) (2 ^ 1074) (den_pos x) v (2 ^ 10) i.2),
      size_law (num x) (den x) (q * 2 ^ j) (den_pos x) v,
    )

-- ---- the body's arithmetic

digits_are : (b : ℕ) → bit_or (bit_and b (2 ^ 52 - 1)) (2 ^ 52) ≡ 2 ^ 52 + b % 2 ^ 52
digits_are b = ap (λ (k : ℕ). bit_or k (2 ^ 52)) (and_mask b 52) ∙ or_shifted_r 1 52 (b % 2 ^ 52) (mod-lt b (pow_pos 52))

shifted_down : (q j : ℕ) → j ≤ 1014 → q / 2 ^ (1014 - j) ≡ q * 2 ^ j / 2 ^ 1014
shifted_down q j h = ap (λ (k : ℕ). k / 2 ^ (1014 - j)) (sym (shl-shr q j)) ∙ shr-shr (q * 2 ^ j) j (1014 - j) ∙ ap (λ (k : ℕ). q * 2 ^ j / 2 ^ k) (join j h)
  where
    join : (j : ℕ) → j ≤ 1014 → j + (1014 - j) ≡ 1014
    join j h = omega arith

shifted_up : (q j : ℕ) → 1014 ≤ j → q * 2 ^ (j - 1014) ≡ q * 2 ^ j / 2 ^ 1014
shifted_up q j h =
    sym
    (ap (λ (k : ℕ). k / 2 ^ 1014) (ap (λ (k : ℕ). q * 2 ^ k) (sym (rejoin j h)) ∙ ap (λ (k : ℕ). q * k) (pow-add 2 (j - 1014) 1014) ∙ sym (mul_assoc q (2 ^ (j - 1014)) (2 ^ 1014)))
    ∙ shl-shr (q * 2 ^ (j - 1014)) 1014)
  where
    rejoin : (j : ℕ) → 1014 ≤ j → j - 1014 + 1014 ≡ j
    rejoin j h = omega arith

finite : (y : Float) → T (positive y) → T (not (is_nan y))
unfolding is_nan
finite nan p = absurd p
finite (inf s) p = tt
finite (fin s m e) p = tt

module _ (x : Float) (F : T (fits binary64 x)) (a : T (le least x)) (c : T (le x most)) where
  abbrev b : ℕ
  b = to_bits binary64 x

  abbrev e : ℕ
  e = b / 2 ^ 52

  abbrev digits : ℕ
  digits = bit_or (bit_and b (2 ^ 52 - 1)) (2 ^ 52)

  z : Shape b x
  z = subst (λ (k : Float). Shape b k) (of_bits-to_bits binary64 x F) (shape_of b (subst (λ (k : Float). Within k) (sym (of_bits-to_bits binary64 x F)) (within x a c)))

  pub is_no_nan : T (not (is_nan x))
  is_no_nan = finite x (within x a c).0

  pub field_low : 997 ≤ e
  field_low = go e z.0 z.1 z.2
    where
      go : (e j : ℕ) → e ≡ suc j → 996 ≤ j → 997 ≤ e
      go e j p q = omega arith

  pub field_high : e ≤ 1033
  field_high = go e z.0 z.1 z.3
    where
      go : (e j : ℕ) → e ≡ suc j → j ≤ 1032 → e ≤ 1033
      go e j p q = omega arith

  digits_lt : digits < 2 ^ 53
  digits_lt = subst (λ (n : ℕ). n < 2 ^ 53) (sym (digits_are b)) (with_lead (b % 2 ^ 52) (mod-lt b (pow_pos 52)))

  pub cut_down : e ≤ 1015 → size_of x ≡ digits / 2 ^ (1015 - e)
  cut_down h =
      let j = z.0 in
      sym
      (ap (λ (k : ℕ). k / 2 ^ (1015 - e)) (digits_are b)
      ∙ ap (λ (k : ℕ). (2 ^ 52 + b % 2 ^ 52) / 2 ^ k) (by e j z.1)
      ∙ shifted_down (2 ^ 52 + b % 2 ^ 52) j (le' e j z.1 h)
      ∙ sym z.4)
    where
      by : (e j : ℕ) → e ≡ suc j → 1015 - e ≡ 1014 - j
      by e j p = omega arith

      le' : (e j : ℕ) → e ≡ suc j → e ≤ 1015 → j ≤ 1014
      le' e j p q = omega arith

  pub cut_up : 1015 < e → size_of x ≡ digits * 2 ^ (e - 1015)
  cut_up h =
      let j = z.0 in
      let q = 2 ^ 52 + b % 2 ^ 52 in
      sym
      (ap (λ (k : ℕ). k * 2 ^ (e - 1015)) (digits_are b)
      ∙ ap (λ (k : ℕ). q * 2 ^ k) (by e j z.1)
      ∙ shifted_up q j (ge e j z.1 h)
      ∙ sym z.4)
    where
      by : (e j : ℕ) → e ≡ suc j → e - 1015 ≡ j - 1014
      by e j p = omega arith

      ge : (e j : ℕ) → e ≡ suc j → 1015 < e → 1014 ≤ j
      ge e j p q = omega arith

  -- a shift up by at most 10 loses nothing
  pub no_loss : (s : ℕ) → s ≤ 10 → digits * 2 ^ s % 2 ^ 64 ≡ digits * 2 ^ s
  no_loss s h = shl_exact 53 s 64 digits_lt (room s h)
    where
      room : (s : ℕ) → s ≤ 10 → 53 + s ≤ 64
      room s h = omega arith

  pub in_steps : 10 < e - 1015 → digits * 2 ^ (e - 1015) ≡ digits * 2 ^ 10 * 2 ^ (e - 1015 - 10)
  in_steps h =
      ap (λ (k : ℕ). digits * 2 ^ k) (go (e - 1015) h) ∙ ap (λ (k : ℕ). digits * k) (pow-add 2 10 (e - 1015 - 10)) ∙ sym (mul_assoc digits (2 ^ 10) (2 ^ (e - 1015 - 10)))
    where
      go : (s : ℕ) → 10 < s → s ≡ 10 + (s - 10)
      go s h = omega arith
