-- `sqrt` is IEEE 754's: its result is a value of the format, none is nearer to the root, and it keeps the order. Assumes nothing.
use Rattle.std.specs.Prelude.{◌≡◌, ℕ, zero, suc, ◌+◌, ◌-◌, ◌*◌, ◌/◌, ◌%◌, ◌^◌, ◌<◌, ◌≤◌, Bool, true, false, cond, not, ◌&&◌, T, ltb, ◌⊎◌, ℤ, ◌==◌, nat_eq, nat_le, nat_lt, refl, Float}
use Rattle.std.proofs.Common.{sym, ap, ◌∙◌, subst, inl, inr, le_refl, le_trans, le_of_eq, le_of_lt, le_antisymm, lt_of_lt_of_le, lt_of_le_of_lt, lt_irrefl, lt_of_not-le, not-le_of_lt, le_of_suc-le-suc, add-le-add, add_comm, add-mul, mul-add, mul-le-mul, mul-le-mul_left, mul-le-mul_right, mul_assoc, mul-one, suc-mul, le-div_iff_mul-le, div-lt_iff_lt-mul, div-mul-le_self, arith, leb→le, eqb→eq, ltb→lt, pow_pos, pow_mono, pow-add, shl_lt, mul-lt-mul_of_pos_right, mul_right_comm, lit<}
use Prim.Native.Nat.{compare, Ordering}
use Rattle.std.proofs.Math.Decide.{dec_le}
use Rattle.std.proofs.Math.Dec.{is_le, compare_is_eq, nleb→lt, eqb_refl}
use Rattle.std.proofs.Math.Arith.{lt_of_le-ne}
use Rattle.std.proofs.Math.Pow.{pow-lt}
use Rattle.std.specs.Float.{binary64, nan, inf, fin, Format}
use Rattle.std.specs.Float.Ieee.{of_bits, le, prec, emax, low, up, down, size, nearest, odd, units, fits}
use Rattle.std.specs.Float.Ieee.Fits.{and_l, and_r, down_pos, two, two-le_pos, odd-fits, nearest-le, kept-lt, cond-fits, nan-fits, inf-fits}
use Rattle.std.specs.Float.Ieee.Exact.{HasValue, units_val}
use Rattle.std.specs.Float.Ieee.Nearest.{div_mono}
use Rattle.std.specs.Float.Ieee.Order.{le_of_values}
use Rattle.std.specs.Float.Ieee.Positive.{num, den, positive, den_pos, le→cross}
use Rattle.std.specs.Float.Ieee.Digits.{size-le, size_reaches}
use Rattle.wide.specs.Isqrt.{isqrt}
use Rattle.wide.specs.IsqrtLaws.{isqrt_root}
use Rattle.float.specs.Sqrt.{nearer, root_units, sqrt}

-- ---- it fits
units_fits : (f : Format) (s : Bool) (q k : ℕ) → q ≤ 2 ^ prec f → T (fits f (units f s q k))
unfolding units
units_fits f s q k h = by_test (nat_lt (q * 2 ^ k) (2 ^ (low f + suc (emax f)))) (ltb→lt (q * 2 ^ k) (2 ^ (low f + suc (emax f))))
  where
    by_test : (b : Bool) → (T b → q * 2 ^ k < 2 ^ (low f + suc (emax f))) → T (fits f (cond b (odd (suc (prec f)) s q k (low f)) (inf s)))
    by_test true l = odd-fits f (suc (prec f)) s q k (lt_of_le_of_lt h (pow-lt {i = prec f} {j = suc (prec f)} (omega arith))) h (l tt)
    by_test false l = inf-fits f s

-- how many digits of the root are dropped, and the root, in units, that the result is
abbrev pub drops : Format → ℕ → ℕ
drops f n = size (isqrt n) - prec f

abbrev pub keeps : Format → ℕ → ℕ
keeps f n = isqrt n / 2 ^ drops f n

abbrev pub grid_root : Format → ℕ → ℕ
grid_root f n = nearer n (2 ^ drops f n) (keeps f n) * 2 ^ drops f n

kept_le : (f : Format) (n : ℕ) → nearer n (2 ^ drops f n) (keeps f n) ≤ 2 ^ prec f
kept_le f n =
    let v = (2 * keeps f n + 1) * 2 ^ drops f n in
    le_trans (nearest-le (keeps f n) (compare (4 * n) (v * v))) (kept-lt (prec f) (isqrt n))

pub root_units_fits : (f : Format) (n : ℕ) → T (fits f (root_units f n))
unfolding root_units
root_units_fits f n = units_fits f false (nearer n (2 ^ drops f n) (keeps f n)) (drops f n) (kept_le f n)

pub sqrt_fits : (f : Format) (x : Float) → T (fits f x) → T (fits f (sqrt f x))
unfolding sqrt fits
sqrt_fits f nan h = nan-fits f
sqrt_fits f (inf s) h = cond-fits f s nan (inf false) (nan-fits f) (inf-fits f false)
sqrt_fits f (fin s zero e) h = h
sqrt_fits f (fin s (suc m) e) h = cond-fits f s nan _ (nan-fits f) (root_units_fits f _)

-- ---- no value is nearer

-- m * 2 ^ j, with m ≤ 2 ^ p, is no number between q * 2 ^ k and (q + 1) * 2 ^ k, where q has p digits or k is 0
gap : (p k q m j : ℕ) → 0 < p → (0 < k → 2 ^ (p - 1) ≤ q) → m ≤ 2 ^ p → (m * 2 ^ j ≤ q * 2 ^ k) ⊎ (suc q * 2 ^ k ≤ m * 2 ^ j)
gap p k q m j P l h = elim (dec_le k j) [
  | yes g ↦
      let e : j - k + k ≡ j = omega arith in
      let s : m * 2 ^ (j - k) * 2 ^ k ≡ m * 2 ^ j = mul_assoc m (2 ^ (j - k)) (2 ^ k) ∙ ap (λ (z : ℕ). m * z) (sym (pow-add 2 (j - k) k) ∙ ap (λ (z : ℕ). 2 ^ z) e) in
      elim (dec_le (m * 2 ^ (j - k)) q) [
        | yes a ↦ inl (le_trans (le_of_eq (sym s)) (mul-le-mul_right (2 ^ k) a))
        | no a ↦ inr (le_trans (mul-le-mul_right (2 ^ k) (lt_of_not-le a)) (le_of_eq s))
      ]
  | no g ↦
      let g' : j < k = lt_of_not-le g in
      let i : p + j ≤ p - 1 + k = omega arith in
      inl
      (le_trans (mul-le-mul_right (2 ^ j) h)
      (le_trans (le_of_eq (sym (pow-add 2 p j)))
      (le_trans (pow_mono i)
      (le_trans (le_of_eq (pow-add 2 (p - 1) k)) (mul-le-mul_right (2 ^ k) (l (omega arith)))))))
]

-- where digits are dropped, all the digits of the format are kept
full : (p w : ℕ) → 0 < p → 0 < size w - p → 2 ^ (p - 1) ≤ w / 2 ^ (size w - p)
full p w P h =
    let i : p - 1 + (size w - p) < size w = omega arith in
    (le-div_iff_mul-le (pow_pos (size w - p))).1 (le_trans (le_of_eq (sym (pow-add 2 (p - 1) (size w - p)))) (size_reaches w (p - 1 + (size w - p)) i))

-- the root is between q * u and (q + 1) * u
around : (n u : ℕ) → 0 < u → (isqrt n / u * u * (isqrt n / u * u) ≤ n) × (n < suc (isqrt n / u) * u * (suc (isqrt n / u) * u))
around n u h =
    let w = isqrt n in
    let r = isqrt_root n in
    let a : w / u * u ≤ w = div-mul-le_self w u in
    let b : suc w ≤ suc (w / u) * u = (div-lt_iff_lt-mul h).0 (le_refl (suc (w / u))) in
    (le_trans (mul-le-mul a a) r.low, lt_of_lt_of_le r.high (mul-le-mul b b))

-- which of the two, and the side of the middle on which the root is
abbrev pub Cmp : Ordering → ℕ → ℕ → Type 0
Cmp Ordering.lt a b = a < b
Cmp Ordering.eq a b = a ≡ b
Cmp Ordering.gt a b = b < a

pub cmp : (a b : ℕ) → Cmp (compare a b) a b
cmp a b = go (compare a b) (leb→le a b) (nleb→lt a b) (eqb→eq a b) (λ (e : a ≡ b). subst (λ (x : ℕ). T (a == x)) e (eqb_refl a))
  where
    go : (o : Ordering) → (T (is_le o) → a ≤ b) → (T (not (is_le o)) → b < a) → (T (compare_is_eq o) → a ≡ b) → (a ≡ b → T (compare_is_eq o)) → Cmp o a b
    go Ordering.lt h k e n = lt_of_le-ne (h tt) n
    go Ordering.eq h k e n = e tt
    go Ordering.gt h k e n = k tt

sides : (q a b : ℕ) (o : Ordering) → Cmp o a b → ((nearest q o ≡ q) × (a ≤ b)) ⊎ ((nearest q o ≡ suc q) × (b ≤ a))
sides q a b Ordering.lt h = inl (refl, le_of_lt h)
sides q a b Ordering.eq h = go (q % 2) refl
  where
    one : (q r : ℕ) → q % 2 ≡ suc r → q + suc r ≡ suc q
    one q r e = omega arith

    none : (q : ℕ) → q + 0 ≡ q
    none q = omega arith

    go : (r : ℕ) → q % 2 ≡ r → ((q + q % 2 ≡ q) × (a ≤ b)) ⊎ ((q + q % 2 ≡ suc q) × (b ≤ a))
    go zero e = inl (ap (λ (z : ℕ). q + z) e ∙ none q, le_of_eq h)
    go (suc r) e = inr (ap (λ (z : ℕ). q + z) e ∙ one q r e, le_of_eq (sym h))
sides q a b Ordering.gt h = inr (refl, le_of_lt h)

middle : (q u : ℕ) → q * u + suc q * u ≡ (2 * q + 1) * u
middle q u = simp (suc-mul, add-mul, mul_assoc, mul-one) (omega arith)

twice : (y : ℕ) → (y + y) * (y + y) ≡ 4 * (y * y)
twice y = simp (mul-add, add-mul) (omega arith)

module _ (f : Format) (n m j : ℕ) (rep : m ≤ 2 ^ prec f) where
  -- a value z above the result: the middle of the two is not below the root
  pub near_above : grid_root f n < m * 2 ^ j → 4 * n ≤ (grid_root f n + m * 2 ^ j) * (grid_root f n + m * 2 ^ j)
  near_above h =
      let p = prec f in
      let P : 0 < p = two-le_pos p (two f) in
      let k = drops f n in
      let u = 2 ^ k in
      let q = keeps f n in
      let z = m * 2 ^ j in
      let a = around n u (pow_pos k) in
      elim (sides q (4 * n) ((2 * q + 1) * u * ((2 * q + 1) * u)) (compare (4 * n) ((2 * q + 1) * u * ((2 * q + 1) * u))) (cmp (4 * n) ((2 * q + 1) * u * ((2 * q + 1) * u)))) [
        | inl t ↦
            let e : grid_root f n ≡ q * u = ap (λ (x : ℕ). x * u) t.0 in
            let g : suc q * u ≤ z = elim (gap p k q m j P (full p (isqrt n) P) rep) [ inl l ↦ absurd (not-le_of_lt h (le_trans l (le_of_eq (sym e)))) | inr l ↦ l ] in
            let s : (2 * q + 1) * u ≤ grid_root f n + z = le_trans (le_of_eq (sym (middle q u))) (add-le-add (le_of_eq (sym e)) g) in
            le_trans t.1 (mul-le-mul s s)
        | inr t ↦
            let e : grid_root f n ≡ suc q * u = ap (λ (x : ℕ). x * u) t.0 in
            let y = suc q * u in
            let s : y + y ≤ grid_root f n + z = add-le-add (le_of_eq (sym e)) (le_trans (le_of_eq (sym e)) (le_of_lt h)) in
            le_trans (mul-le-mul_left 4 (le_of_lt a.1)) (le_trans (le_of_eq (sym (twice y))) (mul-le-mul s s))
      ]

  -- a value z below the result: the middle of the two is not above the root
  pub near_below : m * 2 ^ j < grid_root f n → (grid_root f n + m * 2 ^ j) * (grid_root f n + m * 2 ^ j) ≤ 4 * n
  near_below h =
      let p = prec f in
      let P : 0 < p = two-le_pos p (two f) in
      let k = drops f n in
      let u = 2 ^ k in
      let q = keeps f n in
      let z = m * 2 ^ j in
      let a = around n u (pow_pos k) in
      elim (sides q (4 * n) ((2 * q + 1) * u * ((2 * q + 1) * u)) (compare (4 * n) ((2 * q + 1) * u * ((2 * q + 1) * u))) (cmp (4 * n) ((2 * q + 1) * u * ((2 * q + 1) * u)))) [
        | inl t ↦
            let e : grid_root f n ≡ q * u = ap (λ (x : ℕ). x * u) t.0 in
            let y = q * u in
            let s : grid_root f n + z ≤ y + y = add-le-add (le_of_eq e) (le_trans (le_of_lt h) (le_of_eq e)) in
            le_trans (mul-le-mul s s) (le_trans (le_of_eq (twice y)) (mul-le-mul_left 4 a.0))
        | inr t ↦
            let e : grid_root f n ≡ suc q * u = ap (λ (x : ℕ). x * u) t.0 in
            let g : z ≤ q * u = elim (gap p k q m j P (full p (isqrt n) P) rep) [ inl l ↦ l | inr l ↦ absurd (not-le_of_lt h (le_trans (le_of_eq e) l)) ] in
            let s : grid_root f n + z ≤ (2 * q + 1) * u = le_trans (add-le-add (le_of_eq e) g) (le_of_eq (add_comm (suc q * u) (q * u) ∙ middle q u)) in
            le_trans (mul-le-mul s s) t.1
      ]

-- ---- it keeps the order
same_of_le : (f : Format) (a b : ℕ) → a ≡ b → grid_root f b < grid_root f a → ⊥
same_of_le f a b e h = lt_irrefl (grid_root f b) (subst (λ (z : ℕ). grid_root f b < grid_root f z) e h)

four_le : (a b c : ℕ) → 4 * b ≤ c → c ≤ 4 * a → b ≤ a
four_le a b c h k = omega arith

pub grid_mono : (f : Format) (a b : ℕ) → a ≤ b → grid_root f a ≤ grid_root f b
grid_mono f a b h =
    le_of_suc-le-suc
    (lt_of_not-le
    (λ (g : suc (grid_root f b) ≤ grid_root f a).
    let x = near_above f b (nearer a (2 ^ drops f a) (keeps f a)) (drops f a) (kept_le f a) g in
    let y = near_below f a (nearer b (2 ^ drops f b) (keeps f b)) (drops f b) (kept_le f b) g in
    let s : grid_root f b + grid_root f a ≡ grid_root f a + grid_root f b = add_comm (grid_root f b) (grid_root f a) in
    let w : b ≤ a = four_le a b _ x (le_trans (le_of_eq (ap (λ (z : ℕ). z * z) s)) y) in
    same_of_le f a b (le_antisymm h w) g))

-- ---- of floats
-- what x is in units of the smallest value, times 2 ^ 1074: its root, in those units, is the result's
abbrev pub square_units : Float → ℕ
square_units x = num x * 2 ^ 1074 / den x * 2 ^ 1074

-- what `fits` says of a number above 0
pub record Fits64 (m : ℕ) (e : ℤ) : Type 0 where
  pub digits : m < 2 ^ 53
  pub deep : down e ≤ 2 ^ 1074
  pub finite : m * up e < 2 ^ 1024 * down e

pub fits_parts : (s : Bool) (m : ℕ) (e : ℤ) → T (fits binary64 (fin s (suc m) e)) → Fits64 (suc m) e
unfolding fits
fits_parts s m e f =
    let a = nat_eq (suc m % 2) 1 in
    let b = ltb (suc m) (2 ^ 53) in
    let c = nat_le (down e) (2 ^ 1074) in
    let d = ltb (suc m * up e) (2 ^ 1024 * down e) in
    let t = and_l (a && b && c) d f in
    record { digits = ltb→lt (suc m) (2 ^ 53) (and_r a b (and_l (a && b) c t)); deep = leb→le (down e) (2 ^ 1074) (and_r (a && b) c t); finite = ltb→lt (suc m * up e) (2 ^ 1024 * down e) (and_r (a && b && c) d f) }

pub units_lt : (a d : ℕ) → 0 < d → a < 2 ^ 1024 * d → a * 2 ^ 1074 / d < 2 ^ 2098
units_lt a d p h = (div-lt_iff_lt-mul p).1 (lt_of_lt_of_le (mul-lt-mul_of_pos_right h (pow_pos 1074)) (le_of_eq (mul_right_comm (2 ^ 1024) d (2 ^ 1074))))

grid_lt : (n : ℕ) → n < 2 ^ 3172 → grid_root binary64 n < 2 ^ 2098
grid_lt n h =
    let w = isqrt n in
    let a : w < 2 ^ 1586 = lt_of_not-le (λ (g : 2 ^ 1586 ≤ w). not-le_of_lt h (le_trans (mul-le-mul g g) (isqrt_root n).low)) in
    let b : size w ≤ 1586 = size-le w 1586 a in
    lt_of_le_of_lt (mul-le-mul (kept_le binary64 n) (pow_mono {i = drops binary64 n} {j = 1533} (omega arith))) (pow-lt {i = 1586} {j = 2098} (lit< tt))

pub sqrt_value : (x : Float) → T (fits binary64 x) → T (positive x) → HasValue (sqrt binary64 x) false (grid_root binary64 (square_units x)) (2 ^ 1074)
unfolding sqrt root_units
sqrt_value nan f p = absurd p
sqrt_value (inf s) f p = absurd p
sqrt_value (fin true m e) f p = absurd p
sqrt_value (fin false zero e) f p = absurd p
sqrt_value (fin false (suc m) e) f p =
    let n = suc m * up e * 2 ^ 1074 / down e * 2 ^ 1074 in
    units_val binary64 false (nearer n (2 ^ drops binary64 n) (keeps binary64 n)) (drops binary64 n)
    (grid_lt n (shl_lt 2098 1074 (units_lt (suc m * up e) (down e) (down_pos e) (fits_parts false m e f).finite)))

pub sqrt_mono : (x y : Float) → T (fits binary64 x) → T (fits binary64 y) → T (positive x) → T (positive y) → T (le x y) → T (le (sqrt binary64 x) (sqrt binary64 y))
sqrt_mono x y f g p q h =
    let s : num x * 2 ^ 1074 * den y ≤ num y * 2 ^ 1074 * den x =
    le_trans (le_of_eq (mul_right_comm (num x) (2 ^ 1074) (den y))) (le_trans (mul-le-mul_right (2 ^ 1074) (le→cross x y p q h)) (le_of_eq (mul_right_comm (num y) (den x) (2 ^ 1074)))) in
    let r = mul-le-mul_right (2 ^ 1074) (div_mono (num x * 2 ^ 1074) (den x) (num y * 2 ^ 1074) (den y) (den_pos x) (den_pos y) s) in
    le_of_values (sqrt binary64 x) (sqrt binary64 y) (grid_root binary64 (square_units x)) (2 ^ 1074) (grid_root binary64 (square_units y)) (2 ^ 1074) (pow_pos 1074) (pow_pos 1074) (sqrt_value x f p) (sqrt_value y g q)
    (mul-le-mul_right (2 ^ 1074) (grid_mono binary64 (square_units x) (square_units y) r))

-- it computes: the root of 2
root_of_two : sqrt binary64 (of_bits binary64 0x4000_0000_0000_0000) ≡ of_bits binary64 0x3ff6_a09e_667f_3bcd
unfolding sqrt isqrt of_bits units size
root_of_two = refl

least : sqrt binary64 (of_bits binary64 1) ≡ of_bits binary64 0x1e60_0000_0000_0000
unfolding sqrt isqrt of_bits units size
least = refl
