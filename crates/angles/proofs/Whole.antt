-- A float from 0 to 1, times 2 ^ 60 as a float, loses nothing, and its whole part is what `size_of` says. Assumes nothing.
use Rattle.std.proofs.Common.{◌≡◌, ℕ, zero, suc, ◌+◌, ◌-◌, ◌*◌, ◌/◌, ◌%◌, ◌^◌, ◌<◌, ◌≤◌, min, Bool, true, false, ◌&&◌, T, eqb, ltb, leb, ℤ, pos, negsuc, sym, refl, ap, ◌∙◌, subst, le_trans, le_of_eq, lt_of_lt_of_le, lt_of_le_of_lt, lt_irrefl, mul-le-mul_right, zero-lt-suc, mul_assoc, mul_comm, mul-pos, lt_of_not-le, zero-mul, mul-one, le_of_mul-le-mul_right, arith, lit<, eqb→eq, ltb→lt, lt→ltb, leb→le, pow_pos, pow_mono, pow-add, shl_lt}
use mathlib.Core.Bool.{false≢true}
use native.Mathlib.Nat.{div-le_of_le-mul, zero-div, eq_of_mul-eq-mul_right}
use lib.Pow.{pow-lt}
use lib.Ieee.{Float, nan, inf, fin, binary64, up, down, round, mul, lt, le, eq, fits, to_unsigned, of_bits}
use lib.Ieee.Fits.{down_pos, and_l, and_r}
use lib.Ieee.Exact.{HasValue, round_exact}
use lib.Ieee.Nearest.{div_same}
use Rattle.common.specs.Floats.{one}
use Rattle.angles.specs.Angles.{size_of}
use Rattle.angles.specs.Arcs.{none, in_unit}
use Rattle.angles.proofs.Tests.{yes, both_true, lt_or_eq}

abbrev c60 : Float
c60 = of_bits binary64 4877398396442247168

c60_is : c60 ≡ fin false 1 (pos 60)
unfolding of_bits
c60_is = refl

-- ---- what the format says of a float that is not 0

digits_of : (s : Bool) (m : ℕ) (e : ℤ) → T (fits binary64 (fin s (suc m) e)) → (suc m < 2 ^ 53) × (down e ≤ 2 ^ 1074)
unfolding fits
digits_of s m e t =
    let a : Bool = eqb (suc m % 2) 1 in
    let b : Bool = ltb (suc m) (2 ^ 53) in
    let c : Bool = leb (down e) (2 ^ 1074) in
    let d : Bool = ltb (suc m * up e) (2 ^ 1024 * down e) in
    (ltb→lt (suc m) (2 ^ 53) (and_r a b (and_l (a && b) c (and_l (a && b && c) d t))), leb→le (down e) (2 ^ 1074) (and_r (a && b) c (and_l (a && b && c) d t)))

pow_le_back : (i p : ℕ) → 2 ^ i ≤ 2 ^ p → i ≤ p
pow_le_back i p h = go (lt_of_not-le (λ (g : suc p ≤ i). lt_irrefl (2 ^ p) (lt_of_lt_of_le (up1 p) (le_trans (pow_mono g) h))))
  where
    go : i < suc p → i ≤ p
    go h = omega arith

    up1 : (p : ℕ) → 2 ^ p < 2 ^ suc p
    up1 p = pow-lt (le_refl' (suc p))
      where
        le_refl' : (n : ℕ) → n ≤ n
        le_refl' n = omega arith

-- ---- the product is exact

abbrev Exact : Bool → ℕ → ℤ → Type 0
Exact s m e = HasValue (round binary64 s (m * up e * (1 * 2 ^ 60)) (down e * 1)) s (m * up e * (1 * 2 ^ 60)) (down e * 1)

exact_zero : (s : Bool) (e : ℤ) → Exact s 0 e
exact_zero s e =
    round_exact binary64 s (0 * up e * (1 * 2 ^ 60)) (down e * 1) 0 0 (mul-pos (down_pos e) (zero-lt-suc 0)) (pow_pos 53) (pow_pos 2098)
    (ap (λ (z : ℕ). z * (1 * 2 ^ 60) * 2 ^ 1074) (zero-mul (up e)) ∙ sym (zero-mul (down e * 1)))

exact_up : (s : Bool) (m k : ℕ) → m < 2 ^ 53 → m * 2 ^ k ≤ 1 → Exact s m (pos k)
exact_up s m k h l =
    round_exact binary64 s (m * 2 ^ k * (1 * 2 ^ 60)) 1 m (k + 1134) (zero-lt-suc 0) h
    (lt_of_le_of_lt (le_trans (le_of_eq e1) (mul-le-mul_right (2 ^ 1134) l)) (lit< tt))
    (mul_assoc (m * 2 ^ k) (2 ^ 60) (2 ^ 1074) ∙ sym e1 ∙ sym (mul-one (m * 2 ^ (k + 1134))))
  where
    e1 : m * 2 ^ (k + 1134) ≡ m * 2 ^ k * 2 ^ 1134
    e1 = ap (λ (z : ℕ). m * z) (pow-add 2 k 1134) ∙ sym (mul_assoc m (2 ^ k) (2 ^ 1134))

exact_down : (s : Bool) (m k : ℕ) → m < 2 ^ 53 → 2 ^ suc k ≤ 2 ^ 1074 → Exact s m (negsuc k)
exact_down s m k h l =
    round_exact binary64 s (m * 1 * (1 * 2 ^ 60)) (2 ^ suc k * 1) m (1134 - suc k) (mul-pos (pow_pos (suc k)) (zero-lt-suc 0)) h
    (lt_of_lt_of_le (shl_lt 53 (1134 - suc k) h) (pow_mono (room k)))
    (ap (λ (z : ℕ). z * 2 ^ 60 * 2 ^ 1074) (mul-one m)
    ∙ mul_assoc m (2 ^ 60) (2 ^ 1074)
    ∙ ap (λ (z : ℕ). m * 2 ^ z) (sym (join k (pow_le_back (suc k) 1074 l)))
    ∙ ap (λ (z : ℕ). m * z) (pow-add 2 (1134 - suc k) (suc k))
    ∙ sym (mul_assoc m (2 ^ (1134 - suc k)) (2 ^ suc k))
    ∙ ap (λ (z : ℕ). m * 2 ^ (1134 - suc k) * z) (sym (mul-one (2 ^ suc k))))
  where
    room : (k : ℕ) → 53 + (1134 - suc k) ≤ 2098
    room k = omega arith

    join : (k : ℕ) → suc k ≤ 1074 → 1134 - suc k + suc k ≡ 1134
    join k h = omega arith

exact : (s : Bool) (m : ℕ) (e : ℤ) → T (fits binary64 (fin s m e)) → m * up e ≤ down e → Exact s m e
exact s zero e f l = exact_zero s e
exact s (suc m) (pos k) f l = exact_up s (suc m) k (digits_of s m (pos k) f).0 l
exact s (suc m) (negsuc k) f l = exact_down s (suc m) k (digits_of s m (negsuc k) f).0 (digits_of s m (negsuc k) f).1

-- ---- and what it is

abbrev Result : Float → ℕ → Type 0
Result y n = (T (lt (fin true 1 (pos 0)) y) × T (lt y (fin false 1 (pos 64)))) × (to_unsigned 64 y ≡ n)

result : (y : Float) (s : Bool) (a d : ℕ) → 0 < d → a ≤ d → (s ≡ true → a ≡ 0) → HasValue y s (a * (1 * 2 ^ 60)) (d * 1) → Result y (a * 2 ^ 60 / d)
unfolding lt to_unsigned
result nan s a d D l z h = absurd h
result (inf t) s a d D l z h = absurd h
result (fin true n k) s a d D l z h =
    let a0 : a ≡ 0 = z (sym h.0) in
    let n0 : n * up k ≡ 0 = go (n * up k) (down k) (h.1 ∙ ap (λ (q : ℕ). q * (1 * 2 ^ 60) * down k) a0) in
    ((lt→ltb (n * up k * 1) (1 * 1 * down k) (low (n * up k) (down k) n0 (down_pos k)), lt→ltb 0 (n * up k * 1 + 1 * 2 ^ 64 * down k) (high (n * up k) (down k) (down_pos k))), sym (ap (λ (q : ℕ). q * 2 ^ 60 / d) a0 ∙ zero-div d))
  where
    go : (x q : ℕ) → x * (d * 1) ≡ 0 * (1 * 2 ^ 60) * q → x ≡ 0
    go x q e = eq_of_mul-eq-mul_right d D x 0 (ap (λ (w : ℕ). x * w) (sym (mul-one d)) ∙ e ∙ zero-mul q ∙ sym (zero-mul d))

    low : (x q : ℕ) → x ≡ 0 → 0 < q → x * 1 < 1 * 1 * q
    low x q e h = omega arith

    high : (x q : ℕ) → 0 < q → 0 < x * 1 + 1 * 2 ^ 64 * q
    high x q h = omega arith
result (fin false n k) s a d D l z h =
    let v : n * up k * d ≡ a * 2 ^ 60 * down k = ap (λ (w : ℕ). n * up k * w) (sym (mul-one d)) ∙ h.1 in
    let le' : n * up k ≤ 2 ^ 60 * down k = le_of_mul-le-mul_right (le_trans (le_of_eq (v ∙ mul_assoc a (2 ^ 60) (down k))) (le_trans (mul-le-mul_right (2 ^ 60 * down k) l) (le_of_eq (mul_comm d (2 ^ 60 * down k))))) D in
    let q : n * up k / down k ≡ a * 2 ^ 60 / d = div_same (n * up k) (down k) (a * 2 ^ 60) d (down_pos k) D v in
    let small : n * up k / down k ≤ 2 ^ 60 = div-le_of_le-mul (down k) (le_trans le' (le_of_eq (mul_comm (2 ^ 60) (down k)))) in
    ((lt→ltb 0 (1 * 1 * down k + n * up k * 1) (low (n * up k) (down k) (down_pos k)), lt→ltb (n * up k * 1) (1 * 2 ^ 64 * down k) (high (n * up k) (down k) (down_pos k) le')), capped (n * up k / down k) small ∙ q)
  where
    low : (x q : ℕ) → 0 < q → 0 < 1 * 1 * q + x * 1
    low x q h = omega arith

    high : (x q : ℕ) → 0 < q → x ≤ 2 ^ 60 * q → x * 1 < 1 * 2 ^ 64 * q
    high x q h l = omega arith

    capped : (x : ℕ) → x ≤ 2 ^ 60 → min x (2 ^ 64 - 1) ≡ x
    capped x h = omega arith

whole : (w : Float) → T (fits binary64 w) → le (fin false 0 (pos 0)) w ≡ true → le w (fin false 1 (pos 0)) ≡ true → Result (mul binary64 w (fin false 1 (pos 60))) (size_of w) × (size_of w ≤ 2 ^ 60)
unfolding le lt eq mul
whole nan f h k = absurd (false≢true h)
whole (inf true) f h k = absurd (false≢true h)
whole (inf false) f h k = absurd (false≢true k)
whole (fin false m e) f h k =
    let l : m * up e ≤ down e = tidy (m * up e) (down e) (lt_or_eq (m * up e * 1) (1 * 1 * down e) true (yes k)) in
    (result (round binary64 false (m * up e * (1 * 2 ^ 60)) (down e * 1)) false (m * up e) (down e) (down_pos e) l (λ z. absurd (false≢true z)) (exact false m e f l), small (m * up e) (down e) l)
  where
    tidy : (x d : ℕ) → x * 1 ≤ 1 * 1 * d → x ≤ d
    tidy x d h = omega arith

    small : (x d : ℕ) → x ≤ d → x * 2 ^ 60 / d ≤ 2 ^ 60
    small x d h = div-le_of_le-mul d (mul-le-mul_right (2 ^ 60) h)
whole (fin true m e) f h k =
    let z : 0 ≡ m * up e = zero_of (m * up e) _ (yes h) in
    let l : m * up e ≤ down e = subst (λ (x : ℕ). x ≤ down e) z (nothing (down e)) in
    (result (round binary64 true (m * up e * (1 * 2 ^ 60)) (down e * 1)) true (m * up e) (down e) (down_pos e) l (λ _. sym z) (exact true m e f l), small (m * up e) (down e) l)
  where
    nothing : (d : ℕ) → 0 ≤ d
    nothing d = omega arith

    small : (x d : ℕ) → x ≤ d → x * 2 ^ 60 / d ≤ 2 ^ 60
    small x d h = div-le_of_le-mul d (mul-le-mul_right (2 ^ 60) h)

    zero_of : (x : ℕ) (r : Bool) → T (eqb (0 * 1 * down e) (x * 1) && r) → 0 ≡ x
    zero_of x r h = go x (down e) (eqb→eq (0 * 1 * down e) (x * 1) (and_l (eqb (0 * 1 * down e) (x * 1)) r h))
      where
        go : (x d : ℕ) → 0 * 1 * d ≡ x * 1 → 0 ≡ x
        go x d e = omega arith

none_is : none ≡ fin false 0 (pos 0)
unfolding of_bits
none_is = refl

one_is : one ≡ fin false 1 (pos 0)
unfolding of_bits
one_is = refl

pub whole_at : (w : Float) → T (fits binary64 w) → in_unit w ≡ true → Result (mul binary64 w c60) (size_of w) × (size_of w ≤ 2 ^ 60)
unfolding in_unit
whole_at w f h =
    let q = both_true (le none w) (le w one) h in
    subst (λ (c : Float). Result (mul binary64 w c) (size_of w) × (size_of w ≤ 2 ^ 60)) (sym c60_is)
    (whole w f (ap (λ (z : Float). le z w) (sym none_is) ∙ q.0) (ap (le w) (sym one_is) ∙ q.1))
