-- The root of a number near 1: its pattern is halfway between that of 1 and the number's. Assumes nothing.
use Rattle.std.proofs.Common.{◌≡◌, ℕ, ◌+◌, ◌-◌, ◌*◌, ◌/◌, ◌%◌, ◌^◌, ◌<◌, ◌≤◌, ap, ◌∙◌, subst, add_assoc, mul_assoc, mul_comm, add-mul, mul-le-mul, add_comm, lt_of_not-le, mul-add, mul_left_comm, arith}
use native.Mathlib.Nat.{add_left_comm}
use native.Mathlib.Decide.{dec_le}
use lib.Ieee.{binary64, of_bits}
use Rattle.float.specs.Sqrt.{sqrt}
use Rattle.float.specs.RootInner.{rounded, radicand}
use Rattle.float.proofs.Shapes.{large_squared}
use Rattle.float.proofs.Settled.{settled_root, digits_range}
use Rattle.float.proofs.Cases.{root_bits_law}

square_sum : (a h : ℕ) → (a + h) * (a + h) ≡ a * a + 2 * (a * h) + h * h
square_sum a h = simp (mul-add, add-mul, mul_assoc, mul_comm, mul_left_comm, add_assoc, add_comm, add_left_comm) (omega arith)

square_bound : (h : ℕ) → h ≤ 2 ^ 25 → h * h ≤ 2 ^ 50
square_bound h l = mul-le-mul {n₁ = h} {m₁ = h} {n₂ = 2 ^ 25} {m₂ = 2 ^ 25} l l

square_least : (j : ℕ) → 1 ≤ j → j ≤ j * j
square_least j l = let one : 1 * j ≡ j = omega arith in subst (λ (z : ℕ). z ≤ j * j) one (mul-le-mul {n₁ = 1} {m₁ = j} {n₂ = j} {m₂ = j} l (omega arith))

-- d units above 1: the root is d / 2 units above
beyond : (R Z W J D n a h : ℕ) → R ≡ Z + 2 * W + J → n ≡ Z + D → 2 * W ≤ D → D ≤ 2 * W + a → J + 1 ≤ a → (R + 1 ≤ n + (a + h)) × (n ≤ R + (a + h))
beyond R Z W J D n a h p q l m b = (omega arith, omega arith)

pub root_above : (d : ℕ) → d < 2 ^ 26 → 2 ^ 52 + d / 2 ≡ rounded ((2 ^ 52 + d) * 2 ^ 52)
root_above d l =
    let h = d / 2 in
    let n = (2 ^ 52 + d) * 2 ^ 52 in
    let b : h * h ≤ 2 ^ 50 = square_bound h (omega arith) in
    let w = beyond ((2 ^ 52 + h) * (2 ^ 52 + h)) (2 ^ 52 * 2 ^ 52) (2 ^ 52 * h) (h * h) (d * 2 ^ 52) n (2 ^ 52) h (square_sum (2 ^ 52) h) (add-mul (2 ^ 52) d (2 ^ 52)) (under d) (over d) (omega arith) in
    settled_root n (2 ^ 52 + h) (omega arith) w.0 w.1
  where
    under : (d : ℕ) → 2 * (2 ^ 52 * (d / 2)) ≤ d * 2 ^ 52
    under d = omega arith

    over : (d : ℕ) → d * 2 ^ 52 ≤ 2 * (2 ^ 52 * (d / 2)) + 2 ^ 52
    over d = omega arith

-- d half units below 1: the root is (d + 1) / 2 half units below
between : (R X J Z W D n r j p : ℕ) → Z ≡ R + 2 * X + J → W ≡ X + J → n + D ≡ Z → D ≤ 2 * W → 2 * W ≤ D + p → r + j ≡ p → J + 1 ≤ r → j ≤ J → (R + 1 ≤ n + r) × (n ≤ R + r)
between R X J Z W D n r j p a b c d e f g h = (omega arith, omega arith)

pub root_below : (d : ℕ) → 1 ≤ d → d ≤ 2 ^ 26 → 2 ^ 53 - (d + 1) / 2 ≡ rounded ((2 ^ 54 - 2 * d) * 2 ^ 52)
root_below d p l =
    let j = (d + 1) / 2 in
    let r = 2 ^ 53 - j in
    let n = (2 ^ 54 - 2 * d) * 2 ^ 52 in
    let e : r + j ≡ 2 ^ 53 = omega arith in
    let b : j * j ≤ 2 ^ 50 = square_bound j (omega arith) in
    let w =
    between (r * r) (r * j) (j * j) (2 ^ 53 * 2 ^ 53) (2 ^ 53 * j) (d * 2 ^ 53) n r j (2 ^ 53) (subst (λ (z : ℕ). z * z ≡ r * r + 2 * (r * j) + j * j) e (square_sum r j))
    (subst (λ (z : ℕ). z * j ≡ r * j + j * j) e (add-mul r j j)) (total d l) (under d) (over d) e (omega arith) (square_least j (omega arith)) in
    settled_root n r (omega arith) w.0 w.1
  where
    total : (d : ℕ) → d ≤ 2 ^ 26 → (2 ^ 54 - 2 * d) * 2 ^ 52 + d * 2 ^ 53 ≡ 2 ^ 53 * 2 ^ 53
    total d l = omega arith

    under : (d : ℕ) → d * 2 ^ 53 ≤ 2 * (2 ^ 53 * ((d + 1) / 2))
    under d = omega arith

    over : (d : ℕ) → 2 * (2 ^ 53 * ((d + 1) / 2)) ≤ d * 2 ^ 53 + 2 ^ 53
    over d = omega arith

-- by the pattern
pub near_law : (b : ℕ) → 0x3fef_ffff_fc00_0000 ≤ b → b < 0x3ff0_0000_0400_0000 → of_bits binary64 ((b + 0x3ff0_0000_0000_0000) / 2) ≡ sqrt binary64 (of_bits binary64 b)
near_law b l u = elim (dec_le 0x3ff0_0000_0000_0000 b) [
  | yes o ↦
      let d = b - 0x3ff0_0000_0000_0000 in
      by_digits (2 ^ 52 + d / 2) (omega arith)
      (root_above d (omega arith) ∙ ap (λ (z : ℕ). rounded (z * 2 ^ 52)) (above_is d ((b + 2 ^ 52) % 2 ^ 53) (omega arith) (omega arith)))
  | no o ↦
      let d = 0x3ff0_0000_0000_0000 - b in
      let o' : b < 0x3ff0_0000_0000_0000 = lt_of_not-le o in
      by_digits (2 ^ 53 - (d + 1) / 2) (omega arith)
      (root_below d (omega arith) (omega arith) ∙ ap (λ (z : ℕ). rounded (z * 2 ^ 52)) (below_is d ((b + 2 ^ 52) % 2 ^ 53) (omega arith) (omega arith) (omega arith)))
]
  where
    k : ℕ
    k = (b / 2 ^ 52 + 1021) / 2

    g : ℕ
    g = (b + 2 ^ 52) % 2 ^ 53

    above_is : (d g : ℕ) → d < 2 ^ 26 → g ≡ d → 2 ^ 52 + d ≡ radicand g
    above_is d g h e =
        let x : g % 2 ^ 52 ≡ d = omega arith in
        let y : g / 2 ^ 52 ≡ 0 = omega arith in
        rw (x, y) (omega arith)

    below_is : (d g : ℕ) → 1 ≤ d → d ≤ 2 ^ 26 → g ≡ 2 ^ 53 - d → 2 ^ 54 - 2 * d ≡ radicand g
    below_is d g p h e =
        let x : g % 2 ^ 52 ≡ 2 ^ 52 - d = omega arith in
        let y : g / 2 ^ 52 ≡ 1 = omega arith in
        rw (x, y) (omega arith)

    by_digits : (r : ℕ) → (b + 0x3ff0_0000_0000_0000) / 2 ≡ k * 2 ^ 52 + r → r ≡ rounded (radicand g * 2 ^ 52) → of_bits binary64 ((b + 0x3ff0_0000_0000_0000) / 2) ≡ sqrt binary64 (of_bits binary64 b)
    by_digits r e q =
        let s = large_squared b (omega arith) (omega arith) in
        let w = digits_range g r (omega arith) q in
        ap (of_bits binary64) e ∙ root_bits_law b g k r (omega arith) (omega arith) s.0 (omega arith) s.1 w.0 w.1 w.2
