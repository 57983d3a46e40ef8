-- Whole numbers that the functions of `root` compute. Assumes nothing.
use Rattle.std.proofs.Common.{◌≡◌, ℕ, zero, suc, ◌+◌, ◌-◌, ◌*◌, ◌/◌, ◌%◌, ◌^◌, ◌<◌, ◌≤◌, Bool, true, false, cond, T, ltb, sym, refl, ap, ◌∙◌, subst, ap₂, le_trans, le_of_eq, add_assoc, mul-le-mul_right, mul_assoc, suc-mul, mul_comm, add-mul, mul-le-mul, add_comm, mul-le-mul_left, lt_of_not-le, mul-one, mul-suc, mul-add, not-le_of_lt, mul_left_comm, add-one, arith, lt→ltb, pow_mono, pow-add, shl_lt}
use Prim.Native.Nat.{compare, Ordering}
use native.Mathlib.Nat.{add_left_comm}
use native.Mathlib.Decide.{dec_le}
use Rattle.wide.specs.IsqrtLaws.{isqrt_unique}
use lib.Arith.{le→nltb}
use lib.Count.{count_leading_zeros, leading_top}
use lib.Ieee.{nearest}
use lib.Ieee.Bits.{cond_no}
use Rattle.wide.specs.Isqrt.{isqrt}
use Rattle.float.specs.Sqrt.{nearer}
use Rattle.float.specs.RootInner.{units_of, rounded, radicand}
use Rattle.float.proofs.Roots.{compare_is, root_range}
use Rattle.float.specs.SqrtLaws.{Cmp}

-- ---- the shift of a subnormal number
place_lt : (v j : ℕ) → 2 ^ j ≤ v → v < 2 ^ 52 → j < 52
place_lt v j l h = lt_of_not-le (λ (g : 52 ≤ j). not-le_of_lt h (le_trans (pow_mono g) l))

pub shift_ok : (v : ℕ) → 0 < v → v < 2 ^ 52 → v < 2 ^ 64
    → (11 ≤ count_leading_zeros 64 v) × ((2 ^ 52 ≤ v * 2 ^ (count_leading_zeros 64 v - 11)) × (v * 2 ^ (count_leading_zeros 64 v - 11) < 2 ^ 53) × (count_leading_zeros 64 v - 11 ≤ 52))
shift_ok v p h w =
    let t = leading_top 64 v p w in
    let z = count_leading_zeros 64 v in
    let j = t.0 in
    let e : z + suc j ≡ 64 = t.1 in
    let l : j < 52 = place_lt v j t.2 h in
    let f : j + (z - 11) ≡ 52 = omega arith in
    let g : suc j + (z - 11) ≡ 53 = omega arith in (
      omega arith,
      (
        subst (λ (x : ℕ). 2 ^ x ≤ v * 2 ^ (z - 11)) f (le_trans (le_of_eq (pow-add 2 j (z - 11))) (mul-le-mul_right (2 ^ (z - 11)) t.2)),
        subst (λ (x : ℕ). v * 2 ^ (z - 11) < 2 ^ x) g (shl_lt {a = v} (suc j) (z - 11) t.3),
        omega arith,
      ),
    )

-- ---- the two kinds of patterns
cond_yes : {X : Type 0} (b : Bool) (x y : X) → T b → cond b x y ≡ x
cond_yes true x y t = refl
cond_yes false x y t = absurd t

pub small_units : (b s : ℕ) → b < 2 ^ 52 → s ≤ 52 → b * 2 ^ s * 2 ^ (52 - s) ≡ units_of b * 2 ^ 52
small_units b s h l =
    let e : s + (52 - s) ≡ 52 = omega arith in
    mul_assoc b (2 ^ s) (2 ^ (52 - s)) ∙ ap (λ (z : ℕ). b * z) (sym (pow-add 2 s (52 - s)) ∙ ap (λ (z : ℕ). 2 ^ z) e)
    ∙ ap (λ (z : ℕ). z * 2 ^ 52) (sym (cond_yes (ltb b (2 ^ 52)) b ((2 ^ 52 + b % 2 ^ 52) * 2 ^ (b / 2 ^ 52 - 1)) (lt→ltb b (2 ^ 52) h)))

pub large_units : (b : ℕ) → 2 ^ 52 ≤ b → (2 ^ 52 + b % 2 ^ 52) * 2 ^ (b / 2 ^ 52 + 51) ≡ units_of b * 2 ^ 52
large_units b h =
    let x = b / 2 ^ 52 in
    let m = 2 ^ 52 + b % 2 ^ 52 in
    let e : x + 51 ≡ x - 1 + 52 = omega arith in
    ap (λ (z : ℕ). m * 2 ^ z) e ∙ ap (λ (z : ℕ). m * z) (pow-add 2 (x - 1) 52) ∙ sym (mul_assoc m (2 ^ (x - 1)) (2 ^ 52))
    ∙ ap (λ (z : ℕ). z * 2 ^ 52) (sym (cond_no (ltb b (2 ^ 52)) b (m * 2 ^ (x - 1)) (le→nltb b (2 ^ 52) h)))

-- ---- rounding
pub half_square_law : (q : ℕ) → (2 * q + 1) * (2 * q + 1) ≡ 4 * (q * q + q) + 1
half_square_law q = simp (mul-add, add-mul, mul_assoc, mul_comm, mul_left_comm, add_assoc, add_comm, add_left_comm) (omega arith)

as_nearer : (n q : ℕ) (o : Ordering) → Cmp o (4 * n) ((2 * q + 1) * (2 * q + 1)) → nearer n 1 q ≡ nearest q o
as_nearer n q o h = ap (λ (z : Ordering). nearest q z) (ap (λ (z : ℕ). compare (4 * n) (z * z)) (mul-one (2 * q + 1)) ∙ compare_is (4 * n) ((2 * q + 1) * (2 * q + 1)) o h)

pub round_down : (n : ℕ) → 4 * n < (2 * isqrt n + 1) * (2 * isqrt n + 1) → isqrt n ≡ rounded n
round_down n h = sym (as_nearer n (isqrt n) Ordering.lt h)

pub round_up : (n : ℕ) → (2 * isqrt n + 1) * (2 * isqrt n + 1) ≤ 4 * n → isqrt n + 1 ≡ rounded n
round_up n h = add-one (isqrt n) ∙ sym (as_nearer n (isqrt n) Ordering.gt (omega (arith, half_square_law (isqrt n))))

-- the argument of the rounded root
pub in_range_law : (m : ℕ) → 2 ^ 52 ≤ m → m < 2 ^ 54 → (2 ^ 52 ≤ isqrt (m * 2 ^ 52)) × (isqrt (m * 2 ^ 52) < 2 ^ 53)
in_range_law m l h = root_range (m * 2 ^ 52) (mul-le-mul_right (2 ^ 52) l) (shl_lt 54 52 h)

-- the largest root is not rounded up
pub not_top : (m q : ℕ) → m < 2 ^ 54 - 1 → q < 2 ^ 53 → (2 * q + 1) * (2 * q + 1) ≤ 4 * (m * 2 ^ 52) → q + 1 < 2 ^ 53
not_top m q h l k = lt_of_not-le (λ (g : 2 ^ 53 ≤ q + 1). z m q (omega arith) h k)
  where
    z : (m q : ℕ) → q ≡ 2 ^ 53 - 1 → m < 2 ^ 54 - 1 → (2 * q + 1) * (2 * q + 1) ≤ 4 * (m * 2 ^ 52) → ⊥
    z m q e h k = not-le_of_lt (subst (λ (x : ℕ). 4 * (m * 2 ^ 52) < (2 * x + 1) * (2 * x + 1)) (sym e) (big m h)) k
      where
        big : (m : ℕ) → m < 2 ^ 54 - 1 → 4 * (m * 2 ^ 52) < (2 * (2 ^ 53 - 1) + 1) * (2 * (2 ^ 53 - 1) + 1)
        big m h = omega arith

pub words52 : (m : ℕ) → m / 2 ^ 12 * 2 ^ 64 + m % 2 ^ 12 * 2 ^ 52 ≡ m * 2 ^ 52
words52 m = omega arith

pub words54 : (m : ℕ) → m / 2 ^ 10 * 2 ^ 64 + m % 2 ^ 10 * 2 ^ 54 ≡ 4 * (m * 2 ^ 52)
words54 m = omega arith

-- ---- the argument in units, times 2 ^ 1074, is the number whose root is rounded, times a square
pub as_square : (u m j e : ℕ) → m * 2 ^ j ≡ u * 2 ^ 52 → e ≡ m * 2 ^ (j % 2) → u * 2 ^ 1074 ≡ e * 2 ^ 52 * (2 ^ (j / 2 + 485) * 2 ^ (j / 2 + 485))
as_square u m j e h f =
    let k = j / 2 + 485 in
    let p : j + 1022 ≡ j % 2 + (52 + (k + k)) = omega arith in
    ap (λ (z : ℕ). u * z) (pow-add 2 52 1022)
    ∙ sym (mul_assoc u (2 ^ 52) (2 ^ 1022))
    ∙ ap (λ (z : ℕ). z * 2 ^ 1022) (sym h)
    ∙ mul_assoc m (2 ^ j) (2 ^ 1022)
    ∙ ap (λ (z : ℕ). m * z) (sym (pow-add 2 j 1022) ∙ ap (λ (z : ℕ). 2 ^ z) p ∙ pow-add 2 (j % 2) (52 + (k + k)))
    ∙ sym (mul_assoc m (2 ^ (j % 2)) (2 ^ (52 + (k + k))))
    ∙ ap₂ (λ (x y : ℕ). x * y) (sym f) (pow-add 2 52 (k + k) ∙ ap (λ (z : ℕ). 2 ^ 52 * z) (pow-add 2 k k))
    ∙ sym (mul_assoc e (2 ^ 52) (2 ^ k * 2 ^ k))

pub even_scale : (m j : ℕ) → j % 2 ≡ 0 → m ≡ m * 2 ^ (j % 2)
even_scale m j h = sym (ap (λ (z : ℕ). m * 2 ^ z) h ∙ mul-one m)

pub odd_scale : (m j : ℕ) → (j % 2 ≡ 0 → ⊥) → 2 * m ≡ m * 2 ^ (j % 2)
odd_scale m j h = let e : j % 2 ≡ 1 = omega arith in mul_comm 2 m ∙ sym (ap (λ (z : ℕ). m * 2 ^ z) e)

-- ---- two tests pin the rounded root down
pub square_next : (p : ℕ) → suc p * suc p ≡ p * p + 2 * p + 1
square_next p = simp (suc-mul, mul-suc) (omega arith)

pub pinned : (n p : ℕ) → (2 * p + 1) * (2 * p + 1) ≤ 4 * n → 4 * n < (2 * suc p + 1) * (2 * suc p + 1) → suc p ≡ rounded n
pinned n p h k = elim (dec_le (suc p * suc p) n) [
  | yes l ↦
      let q : suc p ≡ isqrt n = isqrt_unique n (suc p) (record { low = l; high = omega (arith, half_square_law (suc p), square_next (suc p)) }) in
      q ∙ round_down n (subst (λ (z : ℕ). 4 * n < (2 * z + 1) * (2 * z + 1)) q k)
  | no l ↦
      let l' : n < suc p * suc p = lt_of_not-le l in
      let q : p ≡ isqrt n = isqrt_unique n p (record { low = omega (arith, half_square_law p); high = l' }) in
      sym (add-one p) ∙ ap (λ (z : ℕ). z + 1) q ∙ round_up n (subst (λ (z : ℕ). (2 * z + 1) * (2 * z + 1) ≤ 4 * n) q h)
]

pub pinned_at : (n r : ℕ) → 1 ≤ r → (2 * r - 1) * (2 * r - 1) ≤ 4 * n → 4 * n < (2 * r + 1) * (2 * r + 1) → r ≡ rounded n
pinned_at n r p h k =
    let e : suc (r - 1) ≡ r = omega arith in
    let d : 2 * r - 1 ≡ 2 * (r - 1) + 1 = omega arith in
    sym e ∙ pinned n (r - 1) (subst (λ (z : ℕ). z * z ≤ 4 * n) d h) (subst (λ (z : ℕ). 4 * n < (2 * z + 1) * (2 * z + 1)) (sym e) k)

-- a root above the smallest
pub not_least : (m r : ℕ) → 2 ^ 52 ≤ m → 4 * (m * 2 ^ 52) < (2 * r - 1) * (2 * r - 1) → 2 ^ 52 < r
not_least m r l h = lt_of_not-le (λ (g : r ≤ 2 ^ 52).
    let s : 2 * r - 1 ≤ 2 ^ 53 = omega arith in
    not-le_of_lt h (le_trans (mul-le-mul s s) (le_trans (le_of_eq e) (mul-le-mul_left 4 (mul-le-mul_right (2 ^ 52) l)))))
  where
    e : 2 ^ 53 * 2 ^ 53 ≡ 4 * (2 ^ 52 * 2 ^ 52)
    e = refl

-- ---- a number's pattern as a square times a radicand
power : (k : ℕ) → k < 2 → 1 + k ≡ 2 ^ k
power zero l = refl
power (suc zero) l = refl
power (suc (suc k)) l = absurd (none k l)
  where
    none : (k : ℕ) → suc (suc k) < 2 → ⊥
    none k l = omega arith

pub squared : (b m j g k : ℕ) → m * 2 ^ j ≡ units_of b * 2 ^ 52 → 2 ^ 52 ≤ m → m < 2 ^ 53 → g ≡ j % 2 * 2 ^ 52 + m % 2 ^ 52 → k ≡ j / 2 + 485
    → units_of b * 2 ^ 1074 ≡ radicand g * 2 ^ 52 * (2 ^ k * 2 ^ k)
squared b m j g k h l u p q =
    let x : g / 2 ^ 52 ≡ j % 2 = omega arith in
    let y : 2 ^ 52 + g % 2 ^ 52 ≡ m = omega arith in
    rw q (as_square (units_of b) m j (radicand g) h (rw (x, y) (ap (λ (z : ℕ). m * z) (power (j % 2) (omega arith)))))

pub large_squared : (b : ℕ) → 2 ^ 52 ≤ b → b < 0x7ff0_0000_0000_0000
    → (units_of b * 2 ^ 1074 ≡ radicand ((b + 2 ^ 52) % 2 ^ 53) * 2 ^ 52 * (2 ^ ((b / 2 ^ 52 + 1021) / 2) * 2 ^ ((b / 2 ^ 52 + 1021) / 2))) × ((b / 2 ^ 52 + 1021) / 2 < 2046)
large_squared b h l = (squared b (2 ^ 52 + b % 2 ^ 52) (b / 2 ^ 52 + 51) ((b + 2 ^ 52) % 2 ^ 53) ((b / 2 ^ 52 + 1021) / 2) (large_units b h) (omega arith) (omega arith) (omega arith) (omega arith), omega arith)
