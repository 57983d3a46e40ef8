-- When a guess at a rounded root is right, or beside it. Assumes nothing.
use Rattle.std.proofs.Common.{◌≡◌, ℕ, zero, suc, ◌+◌, ◌-◌, ◌*◌, ◌/◌, ◌%◌, ◌^◌, ◌<◌, ◌≤◌, sym, ap, ◌∙◌, subst, lt_of_lt_of_le, mul-le-mul, mul-le-mul_left, lt_of_not-le, add-one, arith, lit≤}
use native.Mathlib.Decide.{dec_le}
use Rattle.wide.specs.Isqrt.{isqrt}
use Rattle.float.specs.RootInner.{rounded, radicand}
use Rattle.float.proofs.Shapes.{pinned, half_square_law, square_next, in_range_law, not_top, round_down, round_up, words52}

pub square_small : (s h l : ℕ) → s < 2 ^ 54 → h * 2 ^ 64 + l ≡ s * s → h < 2 ^ 63
square_small s h l k e =
    let b : h < 2 ^ 45 = omega (arith, mul-le-mul {n₁ = s} {m₁ = s} {n₂ = 2 ^ 54} {m₂ = 2 ^ 54} (omega arith) (omega arith)) in
    lt_of_lt_of_le b (lit≤ tt)

-- n is e * 2^52 + 3 s - 3, p the square of s, d the difference's last word, q is p + d
pub rest_law : (s e R nh nl ph pl d qh ql : ℕ) → 1 ≤ s → nh * 2 ^ 64 + nl ≡ (e / 2 ^ 12) * 2 ^ 64 + (e % 2 ^ 12) * 2 ^ 52 + (3 * s - 3)
    → ph * 2 ^ 64 + pl ≡ R → (d + pl) % 2 ^ 64 ≡ nl → qh * 2 ^ 64 + ql ≡ ph * 2 ^ 64 + pl + d → ql ≡ (pl + d) % 2 ^ 64 → qh ≡ nh
    → R + d + 3 ≡ e * 2 ^ 52 + 3 * s
rest_law s e R nh nl ph pl d qh ql l e1 e2 e3 e4 e5 e6 = omega arith

-- between the squares of the odd numbers beside 2 r
pub settled_root : (n r : ℕ) → 1 ≤ r → r * r + 1 ≤ n + r → n ≤ r * r + r → r ≡ rounded n
settled_root n zero l h k = elim l [ ]
settled_root n (suc p) l h k = pinned n p (omega (arith, half_square_law p, square_next p)) (omega (arith, half_square_law (suc p)))

module _ (s d n : ℕ) (l : 2 ≤ s) (h : s * s + d + 3 ≡ n + 3 * s) where
  square_down : s * s ≡ (s - 1) * (s - 1) + 2 * (s - 1) + 1
  square_down = let e : suc (s - 1) ≡ s = omega arith in subst (λ (z : ℕ). z * z ≡ (s - 1) * (s - 1) + 2 * (s - 1) + 1) e (square_next (s - 1))

  square_up : (s + 1) * (s + 1) ≡ s * s + 2 * s + 1
  square_up = subst (λ (z : ℕ). z * z ≡ s * s + 2 * s + 1) (sym (add-one s)) (square_next s)

  pub one_less : d < 2 * s - 2 → s - 1 ≡ rounded n
  one_less k = settled_root n (s - 1) (omega arith) (omega (arith, square_down)) (omega (arith, square_down))

  pub itself : 2 * s - 2 ≤ d → d < 4 * s - 2 → s ≡ rounded n
  itself k m = settled_root n s (omega arith) (omega arith) (omega arith)

  pub one_more : 4 * s - 2 ≤ d → d < 6 * s → s + 1 ≡ rounded n
  one_more k m = settled_root n (s + 1) (omega arith) (omega (arith, square_up)) (omega (arith, square_up))

-- ---- the argument
pub radicand_range : (g : ℕ) → g < 2 ^ 53 → (2 ^ 52 ≤ radicand g) × (radicand g < 2 ^ 54 - 1)
radicand_range g h =
    let m = 2 ^ 52 + g % 2 ^ 52 in
    let k = 1 + g / 2 ^ 52 in
    let l : m * 1 ≤ m * k = mul-le-mul_left m (omega arith) in
    let u : m * k ≤ m * 2 = mul-le-mul_left m (omega arith) in
    (omega arith, omega arith)

-- the rounded root has 53 digits
pub digits_range : (g r : ℕ) → g < 2 ^ 53 → r ≡ rounded (radicand g * 2 ^ 52) → (r ≡ rounded (radicand g * 2 ^ 52)) × (2 ^ 52 ≤ r) × (r < 2 ^ 53)
digits_range g r h i =
    let e = radicand g in
    let n = e * 2 ^ 52 in
    let q = isqrt n in
    let w = radicand_range g h in
    let b = in_range_law e w.0 (omega arith) in
    let s : (2 ^ 52 ≤ rounded n) × (rounded n < 2 ^ 53) = elim (dec_le ((2 * q + 1) * (2 * q + 1)) (4 * n)) [
      | yes k ↦ subst (λ (z : ℕ). (2 ^ 52 ≤ z) × (z < 2 ^ 53)) (round_up n k) (omega arith, not_top e q w.1 b.1 k)
      | no k ↦ subst (λ (z : ℕ). (2 ^ 52 ≤ z) × (z < 2 ^ 53)) (round_down n (lt_of_not-le k)) b
    ] in
    (i, omega arith, omega arith)

-- the whole root of the argument
pub whole_root : (e q : ℕ) → 2 ^ 52 ≤ e → e < 2 ^ 54 - 1 → q ≡ isqrt (e / 2 ^ 12 * 2 ^ 64 + e % 2 ^ 12 * 2 ^ 52) → (q ≡ isqrt (e * 2 ^ 52)) × (q < 2 ^ 53)
whole_root e q l h p =
    let i : q ≡ isqrt (e * 2 ^ 52) = p ∙ ap isqrt (words52 e) in
    (i, rw i (in_range_law e l (omega arith)).1)

pub slow_down : (e q : ℕ) → q ≡ isqrt (e * 2 ^ 52) → 4 * (e * 2 ^ 52) < (2 * q + 1) * (2 * q + 1) → q ≡ rounded (e * 2 ^ 52)
slow_down e q i k = i ∙ round_down (e * 2 ^ 52) (rw i at k)

pub slow_up : (e q : ℕ) → q ≡ isqrt (e * 2 ^ 52) → (2 * q + 1) * (2 * q + 1) ≤ 4 * (e * 2 ^ 52) → q + 1 ≡ rounded (e * 2 ^ 52)
slow_up e q i k = ap (λ (z : ℕ). z + 1) i ∙ round_up (e * 2 ^ 52) (rw i at k)
