-- A sum with a power of two whose last digit has the unit's weight: the addition rounds to units, and the sum's pattern counts them. Assumes nothing.
use Rattle.std.specs.Prelude.{◌≡◌, ℕ, suc, ◌+◌, ◌-◌, ◌*◌, ◌/◌, ◌^◌, ◌≤◌, ◌<◌, Bool, false, not, ℤ, pos, T, Float}
use Rattle.std.proofs.Math.Path.{refl, ap, ap₂}
use Rattle.std.proofs.Common.{sym, ◌∙◌, subst, le_trans, le_of_eq, le_antisymm, lt_of_lt_of_le, lt_of_not-le, not-le_of_lt, mul-pos, mul-one, one-mul, add-mul, mul_assoc, mul_right_comm, zero-add, mul-le-mul_right, arith, pow-add, pow_pos, pow_mono, shl_lt}
use Rattle.std.proofs.Math.Nat.{mul-div_cancel}
use Rattle.std.proofs.Math.Bool.{cond}
use Rattle.std.specs.Float.Ieee.{nan, binary64, up, down, size, units, round, sum, add, fits, to_bits, top, hid, is_nan}
use Rattle.std.specs.Float.{inf, fin}
use Rattle.std.specs.Float.Ieee.Digits.{size-lt, size-le}
use Rattle.std.specs.Float.Ieee.Exact.{HasValue, units_val}
use Rattle.std.specs.Float.Ieee.Fits.{down_pos, round_is}
use Rattle.std.specs.Float.Ieee.Nearest.{closest, closest_same}
use Rattle.std.specs.Float.Ieee.Scale.{round_same}
use Rattle.float_laws.specs.Place.{mag, mag_exact}
use Rattle.drive_numbers.specs.NearestLaws.{closest_more, closest_le}

-- ---- digits
size_is : (n k : ℕ) → 2 ^ (52 + k) ≤ n → n < 2 ^ (53 + k) → size n ≡ 53 + k
size_is n k lo hi =
    let least : 52 + k < size n = lt_of_not-le (λ (g : size n ≤ 52 + k). not-le_of_lt (lt_of_lt_of_le (size-lt n) (pow_mono g)) lo) in
    le_antisymm (size-le n (53 + k) hi) (omega arith)

-- q * 2 ^ k, with q of 53 digits
module _ (q k : ℕ) (lo : 2 ^ 52 ≤ q) (hi : q < 2 ^ 53) where
  size_of : size (q * 2 ^ k) ≡ 53 + k
  size_of = size_is (q * 2 ^ k) k (le_trans (le_of_eq (pow-add 2 52 k)) (mul-le-mul_right (2 ^ k) lo)) (shl_lt 53 k hi)

  -- the pattern of such a float
  bits_of : (x : Float) → HasValue x false (q * 2 ^ k) (2 ^ 1074) → to_bits binary64 x ≡ k * 2 ^ 52 + q
  unfolding to_bits
  bits_of nan h = absurd h
  bits_of (inf t) h = absurd h
  bits_of (fin t m e) h =
      let n : m * up e * 2 ^ 1074 / down e ≡ q * 2 ^ k = ap (λ (z : ℕ). z / down e) h.1 ∙ mul-div_cancel (q * 2 ^ k) (down_pos e) in
      let d : size (q * 2 ^ k) - 53 ≡ k = omega (arith, size_of) in
      ap₂ (λ (t : Bool) (n : ℕ). cond t (top binary64) 0 + (size n - 53) * hid binary64 + n / 2 ^ (size n - 53)) h.0 n
      ∙ ap (λ (j : ℕ). 0 + j * 2 ^ 52 + q * 2 ^ k / 2 ^ j) d
      ∙ ap₂ (λ (y z : ℕ). y + z) (zero-add (k * 2 ^ 52)) (mul-div_cancel q (pow_pos k))

  -- and it is none of a NaN
  no_nan : (x : Float) → HasValue x false (q * 2 ^ k) (2 ^ 1074) → T (not (is_nan x))
  unfolding is_nan
  no_nan nan h = absurd h
  no_nan (inf t) h = absurd h
  no_nan (fin t m e) h = tt

-- ---- a number of units below 2 ^ 52, and 2 ^ 52 of them
module _ (a k : ℕ) (K : k ≤ 2000) (A : a < 2 ^ 32 * 2 ^ k) where
  pub count_le : closest a (2 ^ k) ≤ 2 ^ 32
  count_le = closest_le a (2 ^ k) (2 ^ 32) (pow_pos k) A

  total_size : size (a + 2 ^ 52 * 2 ^ k) ≡ 53 + k
  total_size = size_is (a + 2 ^ 52 * 2 ^ k) k (omega (arith, pow-add 2 52 k)) (hi (2 ^ k) (2 ^ (53 + k)) (pow-add 2 53 k) A)
    where
      hi : (u w : ℕ) → w ≡ 2 ^ 53 * u → a < 2 ^ 32 * u → a + 2 ^ 52 * u < w
      hi u w e h = omega arith

  rounds : (L : ℕ) → 0 < L → units binary64 false (closest ((a + 2 ^ 52 * 2 ^ k) * L) (L * 2 ^ (size ((a + 2 ^ 52 * 2 ^ k) * L / L) - 53))) (size ((a + 2 ^ 52 * 2 ^ k) * L / L) - 53) ≡ units binary64 false (closest a (2 ^ k) + 2 ^ 52) k
  rounds L l =
      let t = a + 2 ^ 52 * 2 ^ k in
      let d : size (t * L / L) - 53 ≡ k = ap (λ (z : ℕ). size z - 53) (mul-div_cancel t l) ∙ ap (λ (z : ℕ). z - 53) total_size ∙ back k in
      ap (λ (j : ℕ). units binary64 false (closest (t * L) (L * 2 ^ j)) j) d
      ∙ ap (λ (z : ℕ). units binary64 false z k)
      (closest_same (t * L) (L * 2 ^ k) t (2 ^ k) (mul-pos l (pow_pos k)) (pow_pos k) (mul_assoc t L (2 ^ k)) ∙ closest_more a (2 ^ 52) (2 ^ k) (pow_pos k) refl)
    where
      back : (k : ℕ) → 53 + k - 53 ≡ k
      back k = omega arith

  round_total : round binary64 false (a + 2 ^ 52 * 2 ^ k) (2 ^ 1074) ≡ units binary64 false (closest a (2 ^ k) + 2 ^ 52) k
  round_total = round_is binary64 false (a + 2 ^ 52 * 2 ^ k) (2 ^ 1074) ∙ rounds (2 ^ 1074) (pow_pos 1074)

  q_lo : 2 ^ 52 ≤ closest a (2 ^ k) + 2 ^ 52
  q_lo = omega arith

  q_hi : closest a (2 ^ k) + 2 ^ 52 < 2 ^ 53
  q_hi = omega (arith, count_le)

  total_value : HasValue (round binary64 false (a + 2 ^ 52 * 2 ^ k) (2 ^ 1074)) false ((closest a (2 ^ k) + 2 ^ 52) * 2 ^ k) (2 ^ 1074)
  total_value = subst (λ (x : Float). HasValue x false ((closest a (2 ^ k) + 2 ^ 52) * 2 ^ k) (2 ^ 1074)) (sym round_total)
      (units_val binary64 false (closest a (2 ^ k) + 2 ^ 52) k (lt_of_lt_of_le (shl_lt 53 k q_hi) (pow_mono {i = 53 + k} {j = 2098} (omega arith))))

-- ---- the sum of floats
crossed : (a d m c l : ℕ) → a * l ≡ m * d → (a * 1 + 1 * c * d) * l ≡ (m + c * l) * (d * 1)
crossed a d m c l h =
    let x : (a * 1 + 1 * c * d) * l ≡ a * l + c * d * l = ap (λ (z : ℕ). z * l) (ap₂ (λ (y z : ℕ). y + z * d) (mul-one a) (one-mul c)) ∙ add-mul a (c * d) l in
    let y : (m + c * l) * (d * 1) ≡ m * d + c * l * d = ap (λ (z : ℕ). (m + c * l) * z) (mul-one d) ∙ add-mul m (c * l) d in
    x ∙ ap₂ (λ (y z : ℕ). y + z) h (mul_right_comm c d l) ∙ sym y

module _ (m : ℕ) (e : ℤ) (c k : ℕ) (F : T (fits binary64 (fin false m e))) (C : c + 1074 ≡ 52 + k) (K : k ≤ 2000) (A : mag binary64 (fin false m e) < 2 ^ 32 * 2 ^ k) where
  abbrev a : ℕ
  a = mag binary64 (fin false m e)

  add_is : add binary64 (fin false m e) (fin false 1 (pos c)) ≡ round binary64 false (m * up e * 1 + 1 * 2 ^ c * down e) (down e * 1)
  unfolding add sum
  add_is = refl

  powers : 2 ^ c * 2 ^ 1074 ≡ 2 ^ 52 * 2 ^ k
  powers = sym (pow-add 2 c 1074) ∙ ap (λ (z : ℕ). 2 ^ z) C ∙ pow-add 2 52 k

  sum_is : add binary64 (fin false m e) (fin false 1 (pos c)) ≡ round binary64 false (a + 2 ^ 52 * 2 ^ k) (2 ^ 1074)
  sum_is =
      add_is
      ∙ round_same binary64 false (m * up e * 1 + 1 * 2 ^ c * down e) (down e * 1) (a + 2 ^ c * 2 ^ 1074) (2 ^ 1074) (mul-pos (down_pos e) (pow_pos 0)) (pow_pos 1074)
      (crossed (m * up e) (down e) a (2 ^ c) (2 ^ 1074) (mag_exact binary64 false e m F))
      ∙ ap (λ (z : ℕ). round binary64 false (a + z) (2 ^ 1074)) powers

  pub sum_bits : to_bits binary64 (add binary64 (fin false m e) (fin false 1 (pos c))) ≡ suc k * 2 ^ 52 + closest a (2 ^ k)
  sum_bits = ap (to_bits binary64) sum_is ∙ bits_of (closest a (2 ^ k) + 2 ^ 52) k (q_lo a k K A) (q_hi a k K A) _ (total_value a k K A) ∙ omega arith

  pub sum_no_nan : T (not (is_nan (add binary64 (fin false m e) (fin false 1 (pos c)))))
  sum_no_nan = subst (λ (x : Float). T (not (is_nan x))) (sym sum_is) (no_nan (closest a (2 ^ k) + 2 ^ 52) k (q_lo a k K A) (q_hi a k K A) _ (total_value a k K A))
