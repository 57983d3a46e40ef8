-- Products and long division by a quarter turn, a binary digit at a time. Assumes nothing.
use Rattle.std.proofs.Common.{◌≡◌, ℕ, ◌+◌, ◌-◌, ◌*◌, ◌/◌, ◌%◌, ◌^◌, ◌<◌, ◌≤◌, sym, ap, ◌∙◌, le_trans, lt_of_le_of_lt, mul-le-mul_right, mod-lt, mul_assoc, add-mul, lt_of_mul-lt-mul_right, mul-le-mul_left, div-add-mod', mul-one, mul-add, mul_right_comm, div-mul-le_self, le_of_mul-le-mul_right, mul_left_comm, arith, lit<, pow_mono, pow-add}
use native.Mathlib.Nat.{div-eq_of_lt-le}
use lib.Ieee.Nearest.{div_same}
use Rattle.angles.specs.Angles.{Q}
use Rattle.angles.specs.SizesInner.{next_of}
use Rattle.angles.specs.SeriesLaws.{shifts_le}

pub shift_16 : (t u : ℕ) → t * (u * 16) / 2 ^ 64 ≡ t * u / 2 ^ 60
shift_16 t u = div_same (t * (u * 16)) (2 ^ 64) (t * u) (2 ^ 60) (lit< tt) (lit< tt) (go (t * (u * 16)) (t * u) (sym (mul_assoc t u 16)))
  where
    go : (a b : ℕ) → a ≡ b * 16 → a * 2 ^ 60 ≡ b * 2 ^ 64
    go a b e = omega arith

-- ---- long division by Q, a binary digit at a time

pub few_quarters : (x i k r : ℕ) → x < 2 ^ 64 → i ≤ 8 → x * 2 ^ i ≡ k * Q + r → k < 4096
few_quarters x i k r h l e = go (x * 2 ^ i) (mul-le-mul_left x (pow_mono l)) e
  where
    go : (y : ℕ) → y ≤ x * 256 → y ≡ k * Q + r → k < 4096
    go y a b = omega arith

pub doubled : (x i : ℕ) → x * 2 ^ (i + 1) ≡ x * 2 ^ i * 2
doubled x i = ap (λ (n : ℕ). x * n) (pow-add 2 i 1) ∙ sym (mul_assoc x (2 ^ i) 2)

-- ---- a division as one product: K is 2 ^ 64 × C / D, and its error is small

pub reciprocal : (q K C D e : ℕ) → 0 < D → K * D ≡ 2 ^ 64 * C + e → q * e < 2 ^ 64 → q * K / 2 ^ 64 ≡ q * C / D
reciprocal q K C D e P h l =
    let v = q * C / D in
    let r = q * C % D in
    let whole : q * K * D ≡ 2 ^ 64 * (v * D) + 2 ^ 64 * r + q * e = expand v r (div-add-mod' (q * C) D) in
    let low : v * 2 ^ 64 ≤ q * K = le_of_mul-le-mul_right {k = D} (lower (v * D) (v * 2 ^ 64 * D) (q * K * D) r (q * e) whole (mul_right_comm v (2 ^ 64) D)) P in
    let high : q * K < (v + 1) * 2 ^ 64 = lt_of_mul-lt-mul_right D (upper (v * D) ((v + 1) * 2 ^ 64 * D) (q * K * D) r (q * e) whole (mul_right_comm (v + 1) (2 ^ 64) D ∙ ap (λ (z : ℕ). z * 2 ^ 64) (add-mul v 1 D)) (mod-lt (q * C) P) l) in
    div-eq_of_lt-le (2 ^ 64) low high
  where
    expand : (v r : ℕ) → v * D + r ≡ q * C → q * K * D ≡ 2 ^ 64 * (v * D) + 2 ^ 64 * r + q * e
    expand v r g =
        mul_assoc q K D ∙ ap (λ (z : ℕ). q * z) h ∙ mul-add q (2 ^ 64 * C) e ∙ ap (λ (z : ℕ). z + q * e) (mul_left_comm q (2 ^ 64) C ∙ ap (λ (z : ℕ). 2 ^ 64 * z) (sym g) ∙ mul-add (2 ^ 64) (v * D) r)

    lower : (x A B r f : ℕ) → B ≡ 2 ^ 64 * x + 2 ^ 64 * r + f → A ≡ x * 2 ^ 64 → A ≤ B
    lower x A B r f p t = omega arith

    upper : (x A B r f : ℕ) → B ≡ 2 ^ 64 * x + 2 ^ 64 * r + f → A ≡ (x + 1 * D) * 2 ^ 64 → r < D → f < 2 ^ 64 → B < A
    upper x A B r f p t b c = omega arith

-- the whole number next above 2 ^ 64 / d
module _ (d : ℕ) (D : 2 ≤ d) where
  abbrev share : ℕ
  share = (2 ^ 64 - 1) / d

  abbrev over : ℕ
  over = (2 ^ 64 - 1) % d

  pub share_fits : share + 1 < 2 ^ 64
  share_fits = go share (mul-le-mul_left share D) (div-mul-le_self (2 ^ 64 - 1) d)
    where
      go : (s : ℕ) → s * 2 ≤ s * d → s * d ≤ 2 ^ 64 - 1 → s + 1 < 2 ^ 64
      go s h k = omega arith

  pub as_product : (q : ℕ) → q * d < 2 ^ 64 → q * (share + 1) / 2 ^ 64 ≡ q / d
  as_product q h =
      reciprocal q (share + 1) 1 d (d - 1 - over) (omega arith) (go (share * d) ((share + 1) * d) over (add-mul share 1 d) (div-add-mod' (2 ^ 64 - 1) d) (mod-lt (2 ^ 64 - 1) (omega arith)))
      (lt_of_le_of_lt (mul-le-mul_left q small) h)
      ∙ ap (λ (z : ℕ). z / d) (mul-one q)
    where
      small : d - 1 - over ≤ d
      small = omega arith

      go : (x y r : ℕ) → y ≡ x + 1 * d → x + r ≡ 2 ^ 64 - 1 → r < d → y ≡ 2 ^ 64 * 1 + (d - 1 - r)
      go x y r e f l = omega arith

-- ---- bounds of the terms

pub next_fits : (t u d : ℕ) → u < 2 ^ 60 → t * d < 2 ^ 64 → t * u / 2 ^ 60 * u / 2 ^ 60 * d < 2 ^ 64
next_fits t u d h k = lt_of_le_of_lt (mul-le-mul_right d (shifts_le t u h)) k

pub next_within : (t u d : ℕ) → u < 2 ^ 60 → next_of u d t * d ≤ t
next_within t u d h = le_trans (div-mul-le_self (t * u / 2 ^ 60 * u / 2 ^ 60) d) (shifts_le t u h)
