-- The root by cases of the argument, and by its pattern. Assumes nothing.
use Rattle.std.proofs.Common.{◌≡◌, ℕ, zero, suc, ◌+◌, ◌-◌, ◌*◌, ◌/◌, ◌^◌, ◌<◌, ◌≤◌, Bool, true, false, ◌&&◌, ◌||◌, T, eqb, ℤ, pos, sym, refl, ap, ◌∙◌, subst, inl, inr, le_of_eq, lt_of_lt_of_le, lt_of_le_of_lt, lt_irrefl, mul-le-mul_right, zero-lt-suc, eq-zero-or-pos, mul-pos, zero-mul, arith, eqb→eq, lt→ltb, pow_pos, shl_lt}
use mathlib.Core.Bool.{beq}
use lib.Ieee.{Float, nan, inf, fin, binary64, up, down, size, div, lt, eq, fits, of_bits, to_bits, units}
use lib.Ieee.Digits.{size-le}
use lib.Ieee.Fits.{up_pos, down_pos, and_i, and_l, eq→eqb, kept-lt}
use lib.Ieee.Bits.{of_bits-to_bits}
use lib.Ieee.Positive.{first_pos}
use Rattle.wide.proofs.Patterns.{never}
use Rattle.float.specs.Sqrt.{sqrt, root_units}
use Rattle.float.specs.SqrtLaws.{fits_parts, units_lt}
use Rattle.float.specs.RootInner.{units_of, rounded, radicand}
use Rattle.float.proofs.Roots.{join, of_bits_units, bits_value, sqrt_of_value}
use Rattle.float.proofs.Settled.{radicand_range}

-- ---- by the pattern
pub root_bits_law : (b g k r : ℕ) → 0 < b → b < 0x7ff0_0000_0000_0000 → units_of b * 2 ^ 1074 ≡ radicand g * 2 ^ 52 * (2 ^ k * 2 ^ k) → g < 2 ^ 53 → k < 2046
    → r ≡ rounded (radicand g * 2 ^ 52) → 2 ^ 52 ≤ r → r < 2 ^ 53 → of_bits binary64 (k * 2 ^ 52 + r) ≡ sqrt binary64 (of_bits binary64 b)
root_bits_law b g k r p B h G K q ql qh =
    let e = radicand g in
    let w = radicand_range g G in
    let u-pos : 0 < units_of b = first_pos (units_of b) (2 ^ 1074) (subst (λ (z : ℕ). 0 < z) (sym h) (mul-pos (mul-pos (lt_of_lt_of_le (pow_pos 52) w.0) (pow_pos 52)) (mul-pos (pow_pos k) (pow_pos k)))) in
    of_bits_units k r ql qh K
    ∙ ap (λ (z : ℕ). units binary64 false z k) q
    ∙ sym (join (e * 2 ^ 52) k (mul-le-mul_right (2 ^ 52) w.0) (shl_lt 54 52 (omega arith)))
    ∙ ap (root_units binary64) (sym h)
    ∙ sym (sqrt_of_value (of_bits binary64 b) (units_of b) u-pos (bits_value b B))

-- ---- zero
zero_is : of_bits binary64 0 ≡ fin false 0 (pos 0)
unfolding of_bits
zero_is = refl

z : Float
z = fin false 0 (pos 0)

-- ---- above zero
not_zero : lt (of_bits binary64 0) (of_bits binary64 0) ≡ true → ⊥
unfolding lt of_bits
not_zero h = never h

pub above_bits : (x : Float) → T (fits binary64 x) → lt (of_bits binary64 0) x ≡ true → 0 < to_bits binary64 x
above_bits x f h = elim (eq-zero-or-pos (to_bits binary64 x)) [
  | inl e ↦ absurd (not_zero (ap (lt (of_bits binary64 0)) (ap (of_bits binary64) (sym e) ∙ of_bits-to_bits binary64 x f) ∙ h))
  | inr p ↦ p
]

-- a finite number's pattern is below infinity's
bound : (k w : ℕ) → k ≤ 2045 → w < 2 ^ 53 → 0 + k * 2 ^ 52 + w < 0x7ff0_0000_0000_0000
bound k w h l = omega arith

fin_bits : (m : ℕ) (e : ℤ) → T (fits binary64 (fin false (suc m) e)) → to_bits binary64 (fin false (suc m) e) < 0x7ff0_0000_0000_0000
unfolding to_bits
fin_bits m e f =
    let n = suc m * up e * 2 ^ 1074 / down e in
    let k = size n - 53 in
    let s : size n ≤ 2098 = size-le n 2098 (units_lt (suc m * up e) (down e) (down_pos e) (fits_parts false m e f).finite) in
    bound k (n / 2 ^ k) (omega arith) (kept-lt 53 n)

pub above_inf : (x : Float) → T (fits binary64 x) → lt (of_bits binary64 0) x ≡ true → 0x7ff0_0000_0000_0000 ≤ to_bits binary64 x → x ≡ sqrt binary64 x
unfolding lt sqrt of_bits
above_inf nan f h k = refl
above_inf (inf true) f h k = never h
above_inf (inf false) f h k = refl
above_inf (fin s zero e) f h k = refl
above_inf (fin true (suc m) e) f h k = never h
above_inf (fin false (suc m) e) f h k = absurd (lt_irrefl 0x7ff0_0000_0000_0000 (lt_of_le_of_lt k (fin_bits m e f)))

-- ---- zero
value_pos : (m : ℕ) (e : ℤ) → 0 < suc m * up e * 1
value_pos m e = mul-pos (mul-pos (zero-lt-suc m) (up_pos e)) (zero-lt-suc 0)

pub at_zero : (x : Float) → eq x (of_bits binary64 0) ≡ true → x ≡ sqrt binary64 x
unfolding eq sqrt of_bits
at_zero nan h = refl
at_zero (inf s) h = never h
at_zero (fin s zero e) h = refl
at_zero (fin s (suc m) e) h =
    let a = suc m * up e * 1 in
    let b = 0 * 1 * down e in
    let t : T (eqb a b) = and_l (eqb a b) (beq s false || eqb a 0) (subst T (sym h) tt) in
    absurd (lt_irrefl 0 (subst (λ (y : ℕ). 0 < y) (eqb→eq a b t ∙ zero-mul (down e)) (value_pos m e)))

-- ---- the rest
or_r : (a b : Bool) → T b → T (a || b)
or_r true b t = tt
or_r false b t = t

pub other : (x : Float) → lt (of_bits binary64 0) x ≡ false → eq x (of_bits binary64 0) ≡ false → div binary64 (of_bits binary64 0) (of_bits binary64 0) ≡ sqrt binary64 x
unfolding eq lt sqrt of_bits div
other nan h k = refl
other (inf true) h k = refl
other (inf false) h k = never (sym h)
other (fin s zero e) h k =
    let a = 0 * up e * 1 in
    let b = 0 * 1 * down e in
    let p : a ≡ 0 = ap (λ (y : ℕ). y * 1) (zero-mul (up e)) in
    let q : b ≡ 0 = zero-mul (down e) in
    let t : T (eqb a b && (beq s false || eqb a 0)) = and_i (eqb a b) (beq s false || eqb a 0) (eq→eqb (p ∙ sym q)) (or_r (beq s false) (eqb a 0) (eq→eqb p)) in
    absurd (subst T k t)
other (fin true (suc m) e) h k = refl
other (fin false (suc m) e) h k =
    let a = suc m * up e * 1 in
    let b = 0 * 1 * down e in
    absurd (subst T h (lt→ltb b a (lt_of_le_of_lt (le_of_eq (zero-mul (down e))) (value_pos m e))))
