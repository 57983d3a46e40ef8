-- What joins `sqrt` with the code: it works on bit patterns and on roots of two words. Assumes nothing.
use Rattle.std.proofs.Common.{◌≡◌, ℕ, zero, suc, ◌+◌, ◌-◌, ◌*◌, ◌/◌, ◌%◌, ◌^◌, ◌<◌, ◌≤◌, Bool, true, false, cond, not, T, eqb, ltb, leb, sym, refl, ap, ◌∙◌, subst, ap₂, le_trans, le_of_eq, lt_of_lt_of_le, le_of_suc-le-suc, lt_irrefl, mul-le-mul_right, mod-eq_of_lt, mul_assoc, mul_comm, div-lt_iff_lt-mul, mul-le-mul, le_antisymm, mul-lt-mul_of_pos_right, mul-pos, pow-suc, lt_of_not-le, le-div_iff_mul-le, zero-mul, mul-one, not-le_of_lt, mul-div_cancel, mul_left_comm, arith, eqb→eq, ltb→lt, lt→ltb, nltb→le, pow_pos, pow_mono, pow-add, shl_lt}
use Prim.Native.Nat.{compare, Ordering}
use lib.Count.{count_trailing_zeros, under}
use lib.Ieee.{minus}
use lib.Dec.{not_T}
use lib.Arith.{lt→nleb}
use lib.Ieee.{Float, nan, inf, fin, binary64, up, down, size, nearest, odd, units, of_fields, of_bits}
use lib.Ieee.Digits.{size-lt, size-le}
use lib.Ieee.Fits.{down_pos}
use lib.Ieee.Exact.{HasValue, odd_sign}
use lib.Ieee.Bits.{is_false, cond_no}
use Rattle.wide.specs.Isqrt.{isqrt}
use Rattle.wide.specs.IsqrtLaws.{isqrt_root}
use Rattle.float.specs.Sqrt.{nearer, root_units, sqrt}
use Rattle.float.specs.RootInner.{units_of, rounded}
use Rattle.float.specs.SqrtLaws.{Cmp, cmp}

-- ---- `compare`
one_way : (o p : Ordering) (a b : ℕ) → Cmp o a b → Cmp p a b → o ≡ p
one_way Ordering.lt Ordering.lt a b h k = refl
one_way Ordering.lt Ordering.eq a b h k = absurd (z a b h k)
  where
    z : (a b : ℕ) → a < b → a ≡ b → ⊥
    z a b h k = omega arith
one_way Ordering.lt Ordering.gt a b h k = absurd (z a b h k)
  where
    z : (a b : ℕ) → a < b → b < a → ⊥
    z a b h k = omega arith
one_way Ordering.eq Ordering.lt a b h k = absurd (z a b h k)
  where
    z : (a b : ℕ) → a ≡ b → a < b → ⊥
    z a b h k = omega arith
one_way Ordering.eq Ordering.eq a b h k = refl
one_way Ordering.eq Ordering.gt a b h k = absurd (z a b h k)
  where
    z : (a b : ℕ) → a ≡ b → b < a → ⊥
    z a b h k = omega arith
one_way Ordering.gt Ordering.lt a b h k = absurd (z a b h k)
  where
    z : (a b : ℕ) → b < a → a < b → ⊥
    z a b h k = omega arith
one_way Ordering.gt Ordering.eq a b h k = absurd (z a b h k)
  where
    z : (a b : ℕ) → b < a → a ≡ b → ⊥
    z a b h k = omega arith
one_way Ordering.gt Ordering.gt a b h k = refl

pub compare_is : (a b : ℕ) (o : Ordering) → Cmp o a b → compare a b ≡ o
compare_is a b o h = one_way (compare a b) o a b (cmp a b) h

scaled : (o : Ordering) (a b c : ℕ) → 0 < c → Cmp o a b → Cmp o (a * c) (b * c)
scaled Ordering.lt a b c p h = mul-lt-mul_of_pos_right h p
scaled Ordering.eq a b c p h = ap (λ (z : ℕ). z * c) h
scaled Ordering.gt a b c p h = mul-lt-mul_of_pos_right h p

compare_scale : (a b c : ℕ) → 0 < c → compare (a * c) (b * c) ≡ compare a b
compare_scale a b c p = compare_is (a * c) (b * c) (compare a b) (scaled (compare a b) a b c p (cmp a b))

-- ---- the root of a number times a square
square : (a p : ℕ) → (a * p) * (a * p) ≡ a * a * (p * p)
square a p = simp (mul_assoc, mul_comm, mul_left_comm) refl

root_scale : (n p : ℕ) → 0 < p → (isqrt n * p ≤ isqrt (n * (p * p))) × (isqrt (n * (p * p)) < suc (isqrt n) * p)
root_scale n p h =
    let q = isqrt n in
    let r = isqrt_root n in
    let w = isqrt (n * (p * p)) in
    let v = isqrt_root (n * (p * p)) in (
      le_of_suc-le-suc (lt_of_not-le (λ (g : suc w ≤ q * p). not-le_of_lt v.high (le_trans (mul-le-mul g g) (le_trans (le_of_eq (square q p)) (mul-le-mul_right (p * p) r.low))))),
      lt_of_not-le (λ (g : suc q * p ≤ w). not-le_of_lt (mul-lt-mul_of_pos_right r.high (mul-pos h h)) (le_trans (le_of_eq (sym (square (suc q) p))) (le_trans (mul-le-mul g g) v.low))),
    )

pub isqrt_scale : (n p : ℕ) → 0 < p → isqrt (n * (p * p)) / p ≡ isqrt n
isqrt_scale n p h =
    let b = root_scale n p h in
    le_antisymm (le_of_suc-le-suc ((div-lt_iff_lt-mul h).1 b.1)) ((le-div_iff_mul-le h).1 b.0)

size_gt : (n j : ℕ) → 2 ^ j ≤ n → j < size n
size_gt n j h = lt_of_not-le (λ (g : size n ≤ j). not-le_of_lt (lt_of_lt_of_le (size-lt n) (pow_mono g)) h)

-- the root of a number of 105 or 106 digits has 53
pub root_range : (n : ℕ) → 2 ^ 104 ≤ n → n < 2 ^ 106 → (2 ^ 52 ≤ isqrt n) × (isqrt n < 2 ^ 53)
root_range n l h =
    let r = isqrt_root n in (
      le_of_suc-le-suc (lt_of_not-le (λ (g : suc (isqrt n) ≤ 2 ^ 52). not-le_of_lt r.high (le_trans (mul-le-mul g g) l))),
      lt_of_not-le (λ (g : 2 ^ 53 ≤ isqrt n). not-le_of_lt h (le_trans (mul-le-mul g g) r.low)),
    )

-- the root's length
dropped : (n k : ℕ) → 2 ^ 104 ≤ n → n < 2 ^ 106 → size (isqrt (n * (2 ^ k * 2 ^ k))) - 53 ≡ k
dropped n k l h =
    let w = isqrt (n * (2 ^ k * 2 ^ k)) in
    let b = root_scale n (2 ^ k) (pow_pos k) in
    let r = root_range n l h in
    let lo : 52 + k < size w = size_gt w (52 + k) (le_trans (le_of_eq (pow-add 2 52 k)) (le_trans (mul-le-mul_right (2 ^ k) r.0) b.0)) in
    let hi : size w ≤ 53 + k = size-le w (53 + k) (lt_of_lt_of_le b.1 (le_trans (mul-le-mul_right (2 ^ k) r.1) (le_of_eq (sym (pow-add 2 53 k))))) in
    omega arith

nearer_scale : (n p q : ℕ) → 0 < p → nearer (n * (p * p)) p q ≡ nearer n 1 q
nearer_scale n p q h =
    ap (λ (o : Ordering). nearest q o)
    (ap₂ (λ (x y : ℕ). compare x y) (sym (mul_assoc 4 n (p * p))) (square (2 * q + 1) p ∙ ap (λ (z : ℕ). z * (p * p)) (sym (ap₂ (λ (x y : ℕ). x * y) (mul-one (2 * q + 1)) (mul-one (2 * q + 1)))))
    ∙ compare_scale (4 * n) ((2 * q + 1) * 1 * ((2 * q + 1) * 1)) (p * p) (mul-pos h h))

pub join : (n k : ℕ) → 2 ^ 104 ≤ n → n < 2 ^ 106 → root_units binary64 (n * (2 ^ k * 2 ^ k)) ≡ units binary64 false (rounded n) k
unfolding root_units
join n k l h =
    let N = n * (2 ^ k * 2 ^ k) in
    ap (λ (j : ℕ). units binary64 false (nearer N (2 ^ j) (isqrt N / 2 ^ j)) j) (dropped n k l h)
    ∙ ap (λ (q : ℕ). units binary64 false (nearer N (2 ^ k) q) k) (isqrt_scale n (2 ^ k) (pow_pos k))
    ∙ ap (λ (q : ℕ). units binary64 false q k) (nearer_scale n (2 ^ k) (isqrt n) (pow_pos k))

-- ---- the result's bit pattern
half_pos : (q : ℕ) → 0 < q → q % 2 ≡ 0 → 0 < q / 2
half_pos q h e = omega arith

half_small : (d q : ℕ) → q < 2 ^ suc d → q / 2 < 2 ^ d
half_small d q h = omega (arith, pow-suc 2 d)

-- one digit more to look at finds the same zeros
tz_more : (d q : ℕ) → 0 < q → q < 2 ^ d → count_trailing_zeros (suc d) q ≡ count_trailing_zeros d q
unfolding count_trailing_zeros
tz_more zero q p h = absurd (not-le_of_lt h p)
tz_more (suc d) q p h = go (q % 2) refl (λ l. tz_more d (q / 2) l (half_small d q h))
  where
    go : (r : ℕ) → q % 2 ≡ r → (0 < q / 2 → count_trailing_zeros (suc d) (q / 2) ≡ count_trailing_zeros d (q / 2)) → under r (count_trailing_zeros (suc d) (q / 2)) ≡ under r (count_trailing_zeros d (q / 2))
    go zero e ih = ap suc (ih (half_pos q p e))
    go (suc r) e ih = refl

odd_more : (d : ℕ) (s : Bool) (q k l : ℕ) → 0 < q → q < 2 ^ d → odd (suc d) s q k l ≡ odd d s q k l
unfolding odd
odd_more d s zero k l p h = absurd (lt_irrefl 0 p)
odd_more d s (suc q) k l p h = ap (λ (t : ℕ). fin s (suc q / 2 ^ t) (minus (k + t) l)) (tz_more d (suc q) p h)

no_overflow : (q k : ℕ) → q < 2 ^ 53 → k < 2046 → q * 2 ^ k < 2 ^ (1074 + 1024)
no_overflow q k h l = lt_of_lt_of_le (shl_lt 53 k h) (pow_mono {i = 53 + k} {j = 1074 + 1024} (omega arith))

cond_yes : {X : Type 0} (b : Bool) (x y : X) → T b → cond b x y ≡ x
cond_yes true x y t = refl
cond_yes false x y t = absurd t

units_odd : (q k : ℕ) → q < 2 ^ 53 → k < 2046 → units binary64 false q k ≡ odd 54 false q k 1074
unfolding units
units_odd q k h l = cond_yes (ltb (q * 2 ^ k) (2 ^ (1074 + 1024))) (odd 54 false q k 1074) (inf false) (lt→ltb (q * 2 ^ k) (2 ^ (1074 + 1024)) (no_overflow q k h l))

fields_of : (b : ℕ) → b < 2 ^ 63 → of_bits binary64 b ≡ of_fields binary64 false (b / 2 ^ 52) (b % 2 ^ 52)
unfolding of_bits
fields_of b h =
    ap₂ (λ (s : Bool) (x : ℕ). of_fields binary64 s x (b % 2 ^ 52)) (is_false (leb (2 ^ 63) b) (lt→nleb (2 ^ 63) b h)) (ap (λ (z : ℕ). z / 2 ^ 52) (mod-eq_of_lt h))

not_ones : (x : ℕ) → x < 2047 → T (not (eqb x 2047))
not_ones x h = not_T (eqb x 2047) (λ t. z x h (eqb→eq x 2047 t))
  where
    z : (x : ℕ) → x < 2047 → x ≡ 2047 → ⊥
    z x h e = omega arith

normal_fields : (x t : ℕ) → suc x < 2047 → of_fields binary64 false (suc x) t ≡ odd 53 false (2 ^ 52 + t) x 1074
unfolding of_fields
normal_fields x t h = cond_no (eqb (suc x) 2047) (cond (eqb t 0) (inf false) nan) (odd 53 false (2 ^ 52 + t) x 1074) (not_ones (suc x) h)

pub of_bits_units : (k q : ℕ) → 2 ^ 52 ≤ q → q < 2 ^ 53 → k < 2046 → of_bits binary64 (k * 2 ^ 52 + q) ≡ units binary64 false q k
of_bits_units k q l h K =
    let t = q - 2 ^ 52 in
    let e : 2 ^ 52 + t ≡ q = omega arith in
    let x : (k * 2 ^ 52 + q) / 2 ^ 52 ≡ suc k = omega arith in
    let y : (k * 2 ^ 52 + q) % 2 ^ 52 ≡ t = omega arith in
    fields_of (k * 2 ^ 52 + q) (omega arith)
    ∙ ap₂ (λ (x y : ℕ). of_fields binary64 false x y) x y
    ∙ normal_fields k t (omega arith)
    ∙ ap (λ (z : ℕ). odd 53 false z k 1074) e
    ∙ sym (odd_more 53 false q k 1074 (omega arith) h)
    ∙ sym (units_odd q k h K)

-- ---- the argument's bit pattern

subnormal : (x t : ℕ) → (x ≡ 0) → HasValue (of_fields binary64 false x t) false t (2 ^ 1074)
unfolding of_fields
subnormal x t e = subst (λ (z : ℕ). HasValue (of_fields binary64 false z t) false t (2 ^ 1074)) (sym e) (subst (λ (z : ℕ). HasValue (odd 53 false t 0 1074) false z (2 ^ 1074)) (mul-one t) (odd_sign 53 false t 0 1074))

pub bits_value : (b : ℕ) → b < 0x7ff0_0000_0000_0000 → HasValue (of_bits binary64 b) false (units_of b) (2 ^ 1074)
bits_value b h = subst (λ (v : Float). HasValue v false (units_of b) (2 ^ 1074)) (sym (fields_of b (omega arith))) (go (ltb b (2 ^ 52)) (ltb→lt b (2 ^ 52)) (nltb→le b (2 ^ 52)))
  where
    from : (x t : ℕ) → 0 < x → x < 2047 → HasValue (of_fields binary64 false x t) false ((2 ^ 52 + t) * 2 ^ (x - 1)) (2 ^ 1074)
    from x t p l =
        let e : suc (x - 1) ≡ x = omega arith in
        subst (λ (z : ℕ). HasValue (of_fields binary64 false z t) false ((2 ^ 52 + t) * 2 ^ (x - 1)) (2 ^ 1074)) e
        (subst (λ (v : Float). HasValue v false ((2 ^ 52 + t) * 2 ^ (x - 1)) (2 ^ 1074)) (sym (normal_fields (x - 1) t (omega arith))) (odd_sign 53 false (2 ^ 52 + t) (x - 1) 1074))

    go : (c : Bool) → (T c → b < 2 ^ 52) → (T (not c) → 2 ^ 52 ≤ b) → HasValue (of_fields binary64 false (b / 2 ^ 52) (b % 2 ^ 52)) false (cond c b ((2 ^ 52 + b % 2 ^ 52) * 2 ^ (b / 2 ^ 52 - 1))) (2 ^ 1074)
    go true l g =
        let l' = l tt in
        let e : b % 2 ^ 52 ≡ b = omega arith in
        subst (λ (z : ℕ). HasValue (of_fields binary64 false (b / 2 ^ 52) (b % 2 ^ 52)) false z (2 ^ 1074)) e (subnormal (b / 2 ^ 52) (b % 2 ^ 52) (omega arith))
    go false l g = let g' = g tt in from (b / 2 ^ 52) (b % 2 ^ 52) (omega arith) (omega arith)

-- ---- the root of a value
pub sqrt_of_value : (x : Float) (u : ℕ) → 0 < u → HasValue x false u (2 ^ 1074) → sqrt binary64 x ≡ root_units binary64 (u * 2 ^ 1074)
unfolding sqrt
sqrt_of_value nan u p h = absurd h
sqrt_of_value (inf s) u p h = absurd h
sqrt_of_value (fin s zero e) u p h = absurd (lt_irrefl 0 (subst (λ (z : ℕ). 0 < z) (sym h.1 ∙ ap (λ (z : ℕ). z * 2 ^ 1074) (zero-mul (up e)) ∙ zero-mul (2 ^ 1074)) (mul-pos p (down_pos e))))
sqrt_of_value (fin s (suc m) e) u p h =
    ap (λ (b : Bool). cond b nan (root_units binary64 (suc m * up e * 2 ^ 1074 / down e * 2 ^ 1074))) h.0
    ∙ ap (λ (z : ℕ). root_units binary64 (z * 2 ^ 1074)) (ap (λ (z : ℕ). z / down e) h.1 ∙ mul-div_cancel u (down_pos e))
