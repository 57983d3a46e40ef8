-- A part by what code works out: its size against a limit, and the pattern of the size's sum with a power of two. Assumes nothing.
use Rattle.std.specs.Prelude.{◌≡◌, ℕ, zero, suc, ◌+◌, ◌-◌, ◌*◌, ◌^◌, ◌≤◌, ◌<◌, Bool, not, ℤ, leb, Float, Some, None}
use Rattle.std.proofs.Math.Path.{refl, ap, subst}
use Rattle.std.proofs.Common.{sym, ◌∙◌, le_of_eq, mul-pos, zero-add, lt_of_le_of_lt, mul-one, one-mul, mul_right_comm, mul-lt-mul_of_pos_right, mul-le-mul_right, lt_of_mul-lt-mul_right, le_of_mul-le-mul_right, arith, ltb→lt, nltb→le, le→leb, lit≤, pow-add, pow_pos}
use Rattle.std.proofs.Math.Nat.{le_trans, lt_of_lt_of_le, zero-mul, eq_of_mul-eq-mul_right}
use Rattle.std.proofs.Math.Bool.{true, false, cond}
use Rattle.std.proofs.Math.IntN.{pos, neg_ℤ}
use Rattle.std.proofs.Math.Dec.{T, ltb}
use Rattle.std.specs.Float.Ieee.{nan, fin, binary64, up, down, round, neg, sum, add, lt, fits, to_bits, of_bits}
use Rattle.std.specs.Float.{inf}
use Rattle.std.specs.Float.Ieee.Bits.{is_true, is_false}
use Rattle.std.proofs.Math.Arith.{lt→nleb}
use Rattle.std.specs.Float.Ieee.Fits.{down_pos}
use Rattle.std.specs.Float.Ieee.Nearest.{closest}
use Rattle.float.specs.Ops.{abs}
use Rattle.float_laws.specs.Place.{mag, mag_exact}
use Rattle.float_laws.specs.Exact.{exact, signed}
use Rattle.drive_numbers.specs.declared.Unit.{Unit}
use Rattle.drive_numbers.specs.Numbers.{weight, rounded, whole_in_range, part}
use Rattle.drive_numbers.specs.Rounding.{Counted}
use Rattle.drive_numbers.specs.Inner.{size}
use Rattle.drive_numbers.specs.NearestLaws.{closest_ge, closest_whole}
use Rattle.drive_numbers.specs.SumLaws.{count_le, sum_bits, sum_no_nan}

-- ---- the size, and the sign
closest_zero : (u : ℕ) → 0 < u → closest 0 u ≡ 0
closest_zero u p = ap (λ (z : ℕ). closest z u) (sym (zero-mul u)) ∙ closest_whole 0 u p

pub rounded_signed : (u : ℕ) → 0 < u → (s : Bool) (a : ℕ) → rounded u (signed s a) ≡ signed s (closest a u)
rounded_signed u p false a = refl
rounded_signed u p true zero = ap pos (closest_zero u p) ∙ ap (λ (z : ℕ). neg_ℤ (pos z)) (sym (closest_zero u p))
rounded_signed u p true (suc a) = refl

pub part_fin : (s : Bool) (m : ℕ) (e : ℤ) (u : Unit) → part (fin s m e) u ≡ whole_in_range (signed s (closest (mag binary64 (fin s m e)) (2 ^ weight u)))
unfolding part exact
part_fin s m e u = ap whole_in_range (rounded_signed (2 ^ weight u) (pow_pos (weight u)) s (mag binary64 (fin s m e)))

mag_plain : (s : Bool) (m : ℕ) (e : ℤ) → mag binary64 (fin s m e) ≡ mag binary64 (fin false m e)
unfolding mag
mag_plain s m e = refl

plain_fits : (s : Bool) (m : ℕ) (e : ℤ) → T (fits binary64 (fin s m e)) → T (fits binary64 (fin false m e))
unfolding fits
plain_fits s zero e h = h
plain_fits s (suc m) e h = h

-- the sign that a comparison with 0 shows is the number's, but at 0, which has none
zero_size : (n a d l : ℕ) → 0 < d → n * l ≡ a * d → n * 1 + 0 * d ≤ 0 → a ≡ 0
zero_size n a d l p h k =
    let z : n ≡ 0 = omega (arith, mul-one n) in eq_of_mul-eq-mul_right d p a 0 (sym h ∙ ap (λ (y : ℕ). y * l) z ∙ zero-mul l ∙ sym (zero-mul d))

module _ (m : ℕ) (e : ℤ) (u : ℕ) (U : 0 < u) where
  sign_is : (s : Bool) → T (fits binary64 (fin s m e)) → signed (lt (fin s m e) (of_bits binary64 0)) (closest (mag binary64 (fin s m e)) u) ≡ signed s (closest (mag binary64 (fin s m e)) u)
  unfolding lt of_bits
  sign_is false F = by (ltb (m * up e * 1) (0 * down e)) (ltb→lt (m * up e * 1) (0 * down e))
    where
      by : (b : Bool) → (T b → m * up e * 1 < 0 * down e) → signed b (closest (mag binary64 (fin false m e)) u) ≡ pos (closest (mag binary64 (fin false m e)) u)
      by true h = absurd (none (h tt))
        where
          none : m * up e * 1 < 0 * down e → ⊥
          none h = omega (arith, zero-mul (down e))
      by false h = refl
  sign_is true F = by (ltb 0 (m * up e * 1 + 0 * down e)) (nltb→le 0 (m * up e * 1 + 0 * down e))
    where
      by : (b : Bool) → (T (not b) → m * up e * 1 + 0 * down e ≤ 0) → signed b (closest (mag binary64 (fin true m e)) u) ≡ neg_ℤ (pos (closest (mag binary64 (fin true m e)) u))
      by true h = refl
      by false h =
          let z : closest (mag binary64 (fin true m e)) u ≡ 0 = ap (λ (a : ℕ). closest a u) (zero_size (m * up e) (mag binary64 (fin true m e)) (down e) (2 ^ 1074) (down_pos e) (mag_exact binary64 true e m F) (h tt)) ∙ closest_zero u U in
          ap pos z ∙ ap (λ (n : ℕ). neg_ℤ (pos n)) (sym z)

-- ---- below a limit c, and not
below_limit : (n a d c l : ℕ) → 0 < d → 0 < l → n * l ≡ a * d → n * 1 < 1 * c * d → a < c * l
below_limit n a d c l D L h k =
    let x : n < c * d = omega (arith, mul-one n, ap (λ (z : ℕ). z * d) (one-mul c)) in
    lt_of_mul-lt-mul_right d (lt_of_le_of_lt (le_of_eq (sym h)) (lt_of_lt_of_le (mul-lt-mul_of_pos_right x L) (le_of_eq (mul_right_comm c d l))))

from_limit : (n a d c l : ℕ) → 0 < d → 0 < l → n * l ≡ a * d → 1 * c * d ≤ n * 1 → c * l ≤ a
from_limit n a d c l D L h k =
    let x : c * d ≤ n = omega (arith, mul-one n, ap (λ (z : ℕ). z * d) (one-mul c)) in
    le_of_mul-le-mul_right (le_trans (le_of_eq (mul_right_comm c l d)) (le_trans (mul-le-mul_right l x) (le_of_eq h))) D

-- by the bounds of 32 bits
module _ (n : ℕ) where
  pub inside_plus : n ≤ 2 ^ 31 - 1 → Some (pos n) ≡ whole_in_range (pos n)
  inside_plus h = rw (is_true (leb n (2 ^ 31 - 1)) (le→leb n (2 ^ 31 - 1) h))

  pub outside_plus : 2 ^ 31 - 1 < n → None ≡ whole_in_range (pos n)
  outside_plus h = rw (is_false (leb n (2 ^ 31 - 1)) (lt→nleb n (2 ^ 31 - 1) h))

pub inside_minus : (n : ℕ) → n ≤ 2 ^ 31 → Some (neg_ℤ (pos n)) ≡ whole_in_range (neg_ℤ (pos n))
inside_minus zero h = refl
inside_minus (suc n) h = rw (is_true (leb n (2 ^ 31 - 1)) (le→leb n (2 ^ 31 - 1) (omega arith)))

pub outside_minus : (n : ℕ) → 2 ^ 31 < n → None ≡ whole_in_range (neg_ℤ (pos n))
outside_minus zero h = absurd (none h)
  where
    none : 2 ^ 31 < 0 → ⊥
    none h = omega arith
outside_minus (suc n) h = rw (is_false (leb n (2 ^ 31 - 1)) (lt→nleb n (2 ^ 31 - 1) (omega arith)))

outside : (s : Bool) (n : ℕ) → 2 ^ 32 ≤ n → None ≡ whole_in_range (signed s n)
outside false n h = outside_plus n (omega arith)
outside true n h = outside_minus n (omega arith)

module _ (u : Unit) (b c : ℕ) (B : b + 1074 ≡ 32 + weight u) (C : c + 1074 ≡ 52 + weight u) (K : weight u ≤ 2000) where
  powers : 2 ^ b * 2 ^ 1074 ≡ 2 ^ 32 * 2 ^ weight u
  powers = sym (pow-add 2 b 1074) ∙ ap (λ (z : ℕ). 2 ^ z) B ∙ pow-add 2 32 (weight u)

  module _ (s : Bool) (m : ℕ) (e : ℤ) (F : T (fits binary64 (fin s m e))) where
    abbrev a : ℕ
    a = mag binary64 (fin s m e)

    abbrev n : ℕ
    n = closest a (2 ^ weight u)

    within : lt (fin false m e) (fin false 1 (pos b)) ≡ true → a < 2 ^ 32 * 2 ^ weight u
    unfolding lt
    within h =
        lt_of_lt_of_le (below_limit (m * up e) a (down e) (2 ^ b) (2 ^ 1074) (down_pos e) (pow_pos 1074) (mag_exact binary64 s e m F) (ltb→lt (m * up e * 1) (1 * 2 ^ b * down e) (subst T (sym h) tt))) (le_of_eq powers)

    beyond : lt (fin false m e) (fin false 1 (pos b)) ≡ false → 2 ^ 32 * 2 ^ weight u ≤ a
    unfolding lt
    beyond h =
        le_trans (le_of_eq (sym powers)) (from_limit (m * up e) a (down e) (2 ^ b) (2 ^ 1074) (down_pos e) (pow_pos 1074) (mag_exact binary64 s e m F) (nltb→le (m * up e * 1) (1 * 2 ^ b * down e) (subst (λ (t : Bool). T (not t)) (sym h) tt)))

    counted_fin : lt (fin false m e) (fin false 1 (pos b)) ≡ true → Counted (fin s m e) (add binary64 (fin false m e) (fin false 1 (pos c))) (suc (weight u) * 2 ^ 52) u
    counted_fin h =
        let A : mag binary64 (fin false m e) < 2 ^ 32 * 2 ^ weight u = subst (λ (z : ℕ). z < 2 ^ 32 * 2 ^ weight u) (mag_plain s m e) (within h) in
        let P : T (fits binary64 (fin false m e)) = plain_fits s m e F in
        let t = to_bits binary64 (add binary64 (fin false m e) (fin false 1 (pos c))) in
        let q : t ≡ suc (weight u) * 2 ^ 52 + n = sum_bits m e c (weight u) P C K A ∙ ap (λ (z : ℕ). suc (weight u) * 2 ^ 52 + closest z (2 ^ weight u)) (sym (mag_plain s m e)) in
        let d : t - suc (weight u) * 2 ^ 52 ≡ n = omega arith in
        record {
          number = sum_no_nan m e c (weight u) P C K A;
          from = omega arith;
          small = omega (arith, count_le a (weight u) K (within h));
          is = ap (λ (z : ℕ). whole_in_range (signed (lt (fin s m e) (of_bits binary64 0)) z)) d ∙ ap whole_in_range (sign_is m e (2 ^ weight u) (pow_pos (weight u)) s F) ∙ sym (part_fin s m e u);
        }

    outside_fin : lt (fin false m e) (fin false 1 (pos b)) ≡ false → None ≡ part (fin s m e) u
    outside_fin h = outside s n (closest_ge a (2 ^ weight u) (2 ^ 32) (pow_pos (weight u)) (beyond h)) ∙ sym (part_fin s m e u)

  pub counted : (x : Float) → T (fits binary64 x) → lt (abs x) (fin false 1 (pos b)) ≡ true → Counted x (add binary64 (abs x) (fin false 1 (pos c))) (suc (weight u) * 2 ^ 52) u
  unfolding abs
  counted nan F h = unfold lt in absurd (no h)
    where
      no : false ≡ true → ⊥
      no h = subst (λ (t : Bool). T (not t)) h tt
  counted (inf s) F h = unfold lt in absurd (no h)
    where
      no : false ≡ true → ⊥
      no h = subst (λ (t : Bool). T (not t)) h tt
  counted (fin s m e) F h = counted_fin s m e F h

  pub uncounted : (x : Float) → T (fits binary64 x) → lt (abs x) (fin false 1 (pos b)) ≡ false → None ≡ part x u
  unfolding abs
  uncounted nan F h = unfold part in refl
  uncounted (inf s) F h = unfold part in refl
  uncounted (fin s m e) F h = outside_fin s m e F h

-- ---- for each unit: patterns of the limit, 2 ^ 32 units, and of the power of two, 2 ^ 52 units
abbrev pub limit : Unit → ℕ
limit Unit.Fine = 0x4010_0000_0000_0000
limit Unit.Coarse = 0x40b0_0000_0000_0000

abbrev pub origin : Unit → ℕ
origin Unit.Fine = 0x4150_0000_0000_0000
origin Unit.Coarse = 0x41f0_0000_0000_0000

-- the size with a zero's own sign does for a comparison and a sum what the size does
zero_sum : (n b c : ℕ) → n ≡ 0 → 0 < b → sum binary64 true n false b c ≡ round binary64 false (n + b) c
unfolding sum
zero_sum n b c z h = by (ltb n b) (nltb→le n b)
  where
    by : (t : Bool) → (T (not t) → b ≤ n) → cond t (round binary64 false (b - n) c) (round binary64 (ltb b n) (n - b) c) ≡ round binary64 false (n + b) c
    by true k = ap (λ (y : ℕ). round binary64 false y c) (same n b z)
      where
        same : (n b : ℕ) → n ≡ 0 → b - n ≡ n + b
        same n b z = omega arith
    by false k = absurd (no (k tt))
      where
        no : b ≤ n → ⊥
        no k = omega arith

module _ (m : ℕ) (e : ℤ) (p : ℕ) (z : m * up e * 1 ≡ 0) where
  zero_lt : lt (fin true m e) (fin false 1 (pos p)) ≡ lt (fin false m e) (fin false 1 (pos p))
  unfolding lt
  zero_lt = ap (λ (n : ℕ). ltb 0 (n + 1 * 2 ^ p * down e)) z ∙ ap (ltb 0) (zero-add (1 * 2 ^ p * down e)) ∙ ap (λ (n : ℕ). ltb n (1 * 2 ^ p * down e)) (sym z)

  zero_add_is : add binary64 (fin true m e) (fin false 1 (pos p)) ≡ add binary64 (fin false m e) (fin false 1 (pos p))
  unfolding add sum
  zero_add_is = zero_sum (m * up e * 1) (1 * 2 ^ p * down e) (down e * 1) z (mul-pos (mul-pos (pow_pos 0) (pow_pos p)) (down_pos e))

pub data Sized (x : Float) : Type 0 where
  plain : size x ≡ abs x → Sized x
  zero_minus : (m : ℕ) (e : ℤ) → m * up e * 1 ≡ 0 → size x ≡ fin true m e → abs x ≡ fin false m e → Sized x

sized : (x : Float) → Sized x
unfolding abs neg
sized nan = unfold lt in plain refl
sized (inf true) = unfold lt of_bits in plain refl
sized (inf false) = unfold lt of_bits in plain refl
sized (fin false m e) = plain (unfold lt of_bits in by (ltb (m * up e * 1) (0 * down e)) (ltb→lt (m * up e * 1) (0 * down e)))
  where
    by : (b : Bool) → (T b → m * up e * 1 < 0 * down e) → cond b (fin true m e) (fin false m e) ≡ fin false m e
    by true h = absurd (none (h tt))
      where
        none : m * up e * 1 < 0 * down e → ⊥
        none h = omega (arith, zero-mul (down e))
    by false h = refl
sized (fin true m e) = unfold lt of_bits in by (ltb 0 (m * up e * 1 + 0 * down e)) (nltb→le 0 (m * up e * 1 + 0 * down e)) refl
  where
    by : (b : Bool) → (T (not b) → m * up e * 1 + 0 * down e ≤ 0) → lt (fin true m e) (of_bits binary64 0) ≡ b → Sized (fin true m e)
    by true h k = plain (ap (λ (t : Bool). cond t (fin false m e) (fin true m e)) k)
    by false h k = let l = h tt in zero_minus m e (omega arith) (ap (λ (t : Bool). cond t (fin false m e) (fin true m e)) k) refl

module _ (x : Float) (p : ℕ) where
  size-lt : lt (size x) (fin false 1 (pos p)) ≡ lt (abs x) (fin false 1 (pos p))
  size-lt = by (sized x)
    where
      by : Sized x → lt (size x) (fin false 1 (pos p)) ≡ lt (abs x) (fin false 1 (pos p))
      by (plain q) = ap (λ (y : Float). lt y (fin false 1 (pos p))) q
      by (zero_minus m e z q r) = ap (λ (y : Float). lt y (fin false 1 (pos p))) q ∙ zero_lt m e p z ∙ ap (λ (y : Float). lt y (fin false 1 (pos p))) (sym r)

  size_add : add binary64 (size x) (fin false 1 (pos p)) ≡ add binary64 (abs x) (fin false 1 (pos p))
  size_add = by (sized x)
    where
      by : Sized x → add binary64 (size x) (fin false 1 (pos p)) ≡ add binary64 (abs x) (fin false 1 (pos p))
      by (plain q) = ap (λ (y : Float). add binary64 y (fin false 1 (pos p))) q
      by (zero_minus m e z q r) = ap (λ (y : Float). add binary64 y (fin false 1 (pos p))) q ∙ zero_add_is m e p z ∙ ap (λ (y : Float). add binary64 y (fin false 1 (pos p))) (sym r)

module _ (x : Float) (F : T (fits binary64 x)) (u : Unit) (b c : ℕ) (B : b + 1074 ≡ 32 + weight u) (C : c + 1074 ≡ 52 + weight u) (K : weight u ≤ 2000) where
  size_counted : lt (size x) (fin false 1 (pos b)) ≡ true → Counted x (add binary64 (size x) (fin false 1 (pos c))) (suc (weight u) * 2 ^ 52) u
  size_counted h = subst (λ (z : Float). Counted x z (suc (weight u) * 2 ^ 52) u) (sym (size_add x c)) (counted u b c B C K x F (sym (size-lt x b) ∙ h))

  size_outside : lt (size x) (fin false 1 (pos b)) ≡ false → None ≡ part x u
  size_outside h = uncounted u b c B C K x F (sym (size-lt x b) ∙ h)

module _ (x a : Float) (F : T (fits binary64 x)) (q : a ≡ size x) where
  pub is_counted : (u : Unit) → lt a (of_bits binary64 (limit u)) ≡ true → Counted x (add binary64 a (of_bits binary64 (origin u))) (origin u) u
  unfolding of_bits
  is_counted Unit.Fine h = rw q (size_counted x F Unit.Fine 2 22 refl refl (lit≤ tt) (rw q at h))
  is_counted Unit.Coarse h = rw q (size_counted x F Unit.Coarse 12 32 refl refl (lit≤ tt) (rw q at h))

  pub is_outside : (u : Unit) → lt a (of_bits binary64 (limit u)) ≡ false → None ≡ part x u
  unfolding of_bits
  is_outside Unit.Fine h = size_outside x F Unit.Fine 2 22 refl refl (lit≤ tt) (rw q at h)
  is_outside Unit.Coarse h = size_outside x F Unit.Coarse 12 32 refl refl (lit≤ tt) (rw q at h)
