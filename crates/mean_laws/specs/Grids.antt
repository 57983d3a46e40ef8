-- How far rounding goes, over whole numbers: a fraction n / d of units, rounded to p binary digits, is X = `gr p n d` units. X is at most p digits and zeros (`Digits`), and it is above
-- n / d by at most half of its last digit's worth: by half a unit, or by a part in 2 ^ p (`Close`). Nothing here is about floats. Assumes nothing.
use Rattle.std.specs.Prelude.{◌≡◌, refl, Bool, true, false, not, T, leb}
use Rattle.std.proofs.Common.{sym, ap, ◌∙◌, le_trans, le_of_eq, lt_of_lt_of_le, lt_of_le_of_lt, mul_comm, mul_assoc, mul_left_comm, mul-pos, mul-add, add-mul, mul-le-mul_left, mul-le-mul_right, le-div_iff_mul-le, div-lt_iff_lt-mul, div-add-mod', lt_of_mul-lt-mul_right, pow-suc, arith, leb→le, eqb→eq, pow-add, pow_pos, pow_mono}
use Prim.Native.Nat.{ℕ, suc, ◌+◌, ◌-◌, ◌*◌, ◌/◌, ◌%◌, ◌^◌, ◌≤◌, ◌<◌, compare, Ordering}
use Rattle.std.proofs.Math.Dec.{is_le, compare_is_eq, nleb→lt}
use Rattle.std.specs.Float.Ieee.{nearest, size}
use Rattle.std.specs.Float.Ieee.Digits.{size-lt, size-le, size_reaches, back}
use Rattle.std.specs.Float.Ieee.Fits.{nearest-le}
use Rattle.std.specs.Float.Ieee.Nearest.{closest}
use Rattle.std.specs.Float.Ieee.Order.{drop, kept}

-- n / d rounded to p digits
abbrev pub gr : ℕ → ℕ → ℕ → ℕ
gr p n d = kept p n d * 2 ^ drop p n d

-- two numbers are in one order or the other
pub either : (a b : ℕ) {C : Type 0} → (a ≤ b → C) → (b < a → C) → C
either a b {C} f g = go (leb a b) (leb→le a b) (nleb→lt a b)
  where
    go : (x : Bool) → (T x → a ≤ b) → (T (not x) → b < a) → C
    go true p q = f (p tt)
    go false p q = g (q tt)

pub twice : (p : ℕ) → 0 < p → 2 ^ p ≡ 2 * 2 ^ (p - 1)
twice p h = let e : p ≡ suc (p - 1) = omega arith in ap (λ (z : ℕ). 2 ^ z) e ∙ pow-suc 2 (p - 1) ∙ mul_comm (2 ^ (p - 1)) 2

-- ---- the nearest whole number to a / b is at most a half above it
closest_near : (a b : ℕ) → 2 * (closest a b * b) ≤ 2 * a + b
closest_near a b = go (compare (a % b * 2) b) (nleb→lt (a % b * 2) b) (eqb→eq (a % b * 2) b)
  where
    q : ℕ
    q = a / b

    whole : q * b + a % b ≡ a
    whole = div-add-mod' a b

    tie : (w : ℕ) → w % 2 ≤ 1
    tie w = omega arith

    go : (o : Ordering) → (T (not (is_le o)) → b < a % b * 2) → (T (compare_is_eq o) → a % b * 2 ≡ b) → 2 * (nearest q o * b) ≤ 2 * a + b
    go Ordering.lt g e = omega (arith, whole)
    go Ordering.eq g e = let k = e tt in omega (arith, whole, add-mul q (q % 2) b, mul-le-mul_right b (tie q))
    go Ordering.gt g e = let k = g tt in let s : suc q * b ≡ q * b + b = ap (λ (z : ℕ). z * b) {x = suc q} {y = q + 1} (omega arith) ∙ add-mul q 1 b ∙ omega arith in omega (arith, whole)

-- ---- what is known of a rounded number

-- at most 2 ^ p, and zeros
pub record Digits (p X : ℕ) : Type 0 where
  pub digits : ℕ
  pub zeros : ℕ
  pub is : X ≡ digits * 2 ^ zeros
  pub few : digits ≤ 2 ^ p

-- X against n / d
pub data Close (p n d X : ℕ) : Type 0 where
  tiny : 2 * (X * d) ≤ 2 * n + d → Close p n d X
  part : 2 ^ p * (X * d) ≤ 2 ^ p * n + n → Close p n d X

module _ (p n d : ℕ) (P : 0 < p) (D : 0 < d) where
  abbrev k : ℕ
  k = drop p n d

  abbrev X : ℕ
  X = gr p n d

  -- n / d lies below 2 ^ (p + k), and from 2 ^ (p - 1 + k) on where digits are dropped
  below_top : n < 2 ^ (p + k) * d
  below_top =
      let z = size (n / d) in
      lt_of_lt_of_le ((div-lt_iff_lt-mul D).0 (size-lt (n / d))) (mul-le-mul_right d (pow_mono (spare z)))
    where
      spare : (z : ℕ) → z ≤ p + (z - p)
      spare z = omega arith

  from_base : 0 < k → 2 ^ (p - 1) * (d * 2 ^ k) ≤ n
  from_base K =
      le_trans (le_of_eq (simp (mul_assoc, mul_comm, mul_left_comm, pow-add)))
      ((le-div_iff_mul-le D).0 (size_reaches (n / d) (p - 1 + k) (used (size (n / d)) K)))
    where
      used : (z : ℕ) → 0 < z - p → p - 1 + (z - p) < z
      used z h = omega arith

  -- above n / d by half of the last digit's worth
  err : 2 * (X * d) ≤ 2 * n + d * 2 ^ k
  err = le_trans (le_of_eq (ap (λ (z : ℕ). 2 * z) (mul_assoc (kept p n d) (2 ^ k) d ∙ ap (λ (z : ℕ). kept p n d * z) (mul_comm (2 ^ k) d)))) (closest_near n (d * 2 ^ k))

  pub gr_digits : Digits p X
  gr_digits = record {
    digits = kept p n d;
    zeros = k;
    is = refl;
    few =
        le_trans (nearest-le (n / (d * 2 ^ k)) (compare (n % (d * 2 ^ k) * 2) (d * 2 ^ k)))
        ((div-lt_iff_lt-mul (mul-pos D (pow_pos k))).1
        (lt_of_lt_of_le below_top (le_of_eq (ap (λ (z : ℕ). z * d) (pow-add 2 p k) ∙ mul_assoc (2 ^ p) (2 ^ k) d ∙ ap (λ (z : ℕ). 2 ^ p * z) (mul_comm (2 ^ k) d)))));
  }

  pub gr_close : Close p n d X
  gr_close = either k 0 (λ z. tiny (none_dropped z)) (λ z. part (some_dropped z))
    where
      none_dropped : k ≤ 0 → 2 * (X * d) ≤ 2 * n + d
      none_dropped z = let e : k ≡ 0 = omega arith in le_trans err (le_of_eq (ap (λ (j : ℕ). 2 * n + d * 2 ^ j) e ∙ omega arith))

      some_dropped : 0 < k → 2 ^ p * (X * d) ≤ 2 ^ p * n + n
      some_dropped z =
          let H = 2 ^ (p - 1) in
          let a : H * (2 * (X * d)) ≤ H * (2 * n + d * 2 ^ k) = mul-le-mul_left H err in
          let b : H * (d * 2 ^ k) ≤ n = from_base z in
          let c : H * (2 * n + d * 2 ^ k) ≡ H * (2 * n) + H * (d * 2 ^ k) = mul-add H (2 * n) (d * 2 ^ k) in
          let e : 2 ^ p * (X * d) ≡ H * (2 * (X * d)) = ap (λ (z : ℕ). z * (X * d)) (twice p P ∙ mul_comm 2 H) ∙ mul_assoc H 2 (X * d) in
          let g : 2 ^ p * n ≡ H * (2 * n) = ap (λ (z : ℕ). z * n) (twice p P ∙ mul_comm 2 H) ∙ mul_assoc H 2 n in
          omega arith

  -- below 2 ^ (p + j) it is off by half of 2 ^ j at most
  pub gr_half : (j : ℕ) → n < 2 ^ (p + j) * d → 2 * (X * d) ≤ 2 * n + d * 2 ^ j
  gr_half j h = le_trans err (more (mul-le-mul_left d (pow_mono (fewer (size (n / d)) (size-le (n / d) (p + j) ((div-lt_iff_lt-mul D).1 h))))))
    where
      fewer : (z : ℕ) → z ≤ p + j → z - p ≤ j
      fewer z h = omega arith

      more : {a b : ℕ} → a ≤ b → 2 * n + a ≤ 2 * n + b
      more h = omega arith

-- ---- multiples of 2 ^ t
module _ (p X t : ℕ) (P : 0 < p) (x : Digits p X) where
  abbrev z : ℕ
  z = x.zeros

  coarse : t ≤ z → (q : ℕ) × (X ≡ q * 2 ^ t)
  coarse h = (x.digits * 2 ^ (z - t), x.is ∙ ap (λ (i : ℕ). x.digits * 2 ^ i) (sym (back z t h)) ∙ ap (λ (i : ℕ). x.digits * i) (pow-add 2 (z - t) t) ∙ sym (mul_assoc x.digits (2 ^ (z - t)) (2 ^ t)))

  small : z < t → X ≤ 2 ^ (p - 1) * 2 ^ t
  small h =
      le_trans (le_of_eq x.is)
      (le_trans (mul-le-mul_right (2 ^ z) x.few)
      (le_trans (le_of_eq (sym (pow-add 2 p z))) (le_trans (pow_mono (room p t z P h)) (le_of_eq (pow-add 2 (p - 1) t)))))
    where
      room : (p t z : ℕ) → 0 < p → z < t → p + z ≤ p - 1 + t
      room p t z P h = omega arith

  -- a rounded number above 2 ^ (p - 1 + t) is a multiple of 2 ^ t
  pub digits_multiple : 2 ^ (p - 1) * 2 ^ t < X → (q : ℕ) × (X ≡ q * 2 ^ t)
  digits_multiple h = either t z coarse (λ k. absurd (no (small k)))
    where
      no : X ≤ 2 ^ (p - 1) * 2 ^ t → ⊥
      no k = omega arith

  -- below y * 2 ^ t it is at most (y - 1) * 2 ^ t
  pub digits_step : (y : ℕ) → X < y * 2 ^ t → 2 ^ (p - 1) < y → X + 2 ^ t ≤ y * 2 ^ t
  digits_step y h l = either t z (λ k. by (coarse k)) (λ k. le_trans (up (small k)) (le_trans (le_of_eq (sym (next (2 ^ (p - 1))))) (mul-le-mul_right (2 ^ t) l)))
    where
      next : (q : ℕ) → suc q * 2 ^ t ≡ q * 2 ^ t + 2 ^ t
      next q = ap (λ (z : ℕ). z * 2 ^ t) {x = suc q} {y = q + 1} (omega arith) ∙ add-mul q 1 (2 ^ t) ∙ omega arith

      up : {a : ℕ} → X ≤ a → X + 2 ^ t ≤ a + 2 ^ t
      up k = omega arith

      by : (q : ℕ) × (X ≡ q * 2 ^ t) → X + 2 ^ t ≤ y * 2 ^ t
      by w =
          let q = w.0 in
          let s : suc q ≤ y = lt_of_mul-lt-mul_right (2 ^ t) (lt_of_le_of_lt (le_of_eq (sym w.1)) h) in
          let m = mul-le-mul_right (2 ^ t) s in
          let n = next q in
          let e = w.1 in
          omega arith
