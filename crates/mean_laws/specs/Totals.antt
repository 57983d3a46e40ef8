-- Why a weighted mean stays below the overflow, over whole numbers: L units are 1, and the weights F and G, of p digits each, add up to at most L and half of N = 2 ^ t, one unit of the
-- last digit below L. A number of at most W * L - W * N units, times a weight, is rounded to X. Nothing here is about floats. Assumes nothing.
use Rattle.std.specs.Prelude.{◌≡◌, ℕ, ◌+◌, ◌-◌, ◌*◌, ◌^◌, ◌≤◌, ◌<◌}
use Rattle.std.proofs.Common.{sym, ap, ◌∙◌, le_trans, le_of_eq, lt_of_lt_of_le, lt_of_le_of_lt, mul_comm, mul_assoc, mul_left_comm, mul-one, mul-pos, mul-add, add-mul, mul-le-mul_left, mul-le-mul_right, lt_of_mul-lt-mul_right, arith, pow-add, pow_pos}
use Rattle.std.proofs.Math.Nat.{lt_of_mul-lt-mul_left}
use Rattle.mean_laws.specs.Grids.{either, twice, Digits, Close, tiny, part, digits_multiple, digits_step}

-- n / d is at most Z less than 2 ^ p * Z: so it is rounded to less than that
pub strict : (p n d Z X : ℕ) → 0 < d → 0 < Z → n + d * Z ≤ d * (2 ^ p * Z) → Close p n d X → X < 2 ^ p * Z
strict p n d Z X D Zp h c = lt_of_mul-lt-mul_right d (lt_of_lt_of_le (under c) (le_of_eq (mul_comm d (2 ^ p * Z))))
  where
    dz : 0 < d * Z
    dz = mul-pos D Zp

    d_le : d ≤ d * Z
    d_le = le_trans (le_of_eq (sym (mul-one d))) (mul-le-mul_left d Zp)

    under : Close p n d X → X * d < d * (2 ^ p * Z)
    under (tiny k) = omega (arith, dz, d_le)
    under (part k) =
        let Q = d * (2 ^ p * Z) in
        let a = mul-le-mul_left (2 ^ p) h in
        let b = mul-add (2 ^ p) n (d * Z) in
        let e : 2 ^ p * (d * Z) ≡ Q = mul_left_comm (2 ^ p) d Z in
        let l : 2 ^ p * (X * d) < 2 ^ p * Q = omega (arith, dz) in
        lt_of_mul-lt-mul_left (2 ^ p) l

-- L is 2 ^ (p + t), N is 2 ^ t
module _ (p t y L : ℕ) (P : 0 < p) (l-is : L ≡ 2 ^ p * 2 ^ t) where
  abbrev U : ℕ
  U = 2 ^ p

  abbrev H : ℕ
  H = 2 ^ (p - 1)

  abbrev N : ℕ
  N = 2 ^ t

  abbrev W : ℕ
  W = 2 ^ (p + y)

  wv_is : 2 ^ (p + y + t) ≡ W * N
  wv_is = pow-add 2 (p + y) t

  pub wv_pos : 0 < W * N
  wv_pos = mul-pos (pow_pos (p + y)) (pow_pos t)

  -- W * L is 2 ^ p of W * N
  pub wl_is : W * L ≡ U * (W * N)
  wl_is = ap (λ (z : ℕ). W * z) l-is ∙ mul_left_comm W U N

  -- from the weight 1 / 2 on: one W * N less
  from_half : (G X : ℕ) → Digits p G → Digits p X → H * N < G → X < W * G → X + W * N ≤ W * G
  from_half G X g x a b = by (digits_multiple p G t P g a)
    where
      by : (q : ℕ) × (G ≡ q * N) → X + W * N ≤ W * G
      by w =
          let q = w.0 in
          let s = 2 ^ (p + y + t) in
          let e : W * G ≡ q * s = ap (λ (z : ℕ). W * z) w.1 ∙ mul_left_comm W q N ∙ ap (λ (z : ℕ). q * z) (sym wv_is) in
          let l : H < q = lt_of_mul-lt-mul_right N (lt_of_lt_of_le a (le_of_eq w.1)) in
          let k = digits_step p X (p + y + t) P x q (lt_of_lt_of_le b (le_of_eq e)) l in
          let v = wv_is in
          omega arith

  -- up to the weight 1 / 2: half of that, from half of W * L
  upto_half : (X : ℕ) → Digits p X → X < W * (H * N) → 2 * X + W * N ≤ W * L
  upto_half X x b =
      let s = 2 ^ (y + (p - 1) + t) in
      let w2 : 2 * s ≡ W * N = two_s in
      let e : W * (H * N) ≡ U * s = mul_left_comm W H N ∙ ap (λ (z : ℕ). H * z) (sym w2) ∙ sym (mul_assoc H 2 s) ∙ ap (λ (z : ℕ). z * s) (mul_comm H 2 ∙ sym (twice p P)) in
      let l : H < U = omega (arith, twice p P, pow_pos (p - 1)) in
      let k = digits_step p X (y + (p - 1) + t) P x U (lt_of_lt_of_le b (le_of_eq e)) l in
      let m : 2 * (U * s) ≡ U * (W * N) = mul_left_comm 2 U s ∙ ap (λ (z : ℕ). U * z) w2 in
      let n = wl_is in
      omega arith
    where
      two_s : 2 * 2 ^ (y + (p - 1) + t) ≡ W * N
      two_s = ap (λ (z : ℕ). 2 * z) (pow-add 2 (y + (p - 1)) t) ∙ sym (mul_assoc 2 (2 ^ (y + (p - 1))) N) ∙ ap (λ (z : ℕ). z * N) (ap (λ (z : ℕ). 2 * z) (pow-add 2 y (p - 1) ∙ mul_comm (2 ^ y) H) ∙ sym (mul_assoc 2 H (2 ^ y)) ∙ ap (λ (z : ℕ). z * 2 ^ y) (sym (twice p P)) ∙ sym (pow-add 2 p y))

  -- the sum of both, with half of W * N to spare
  pub total : (F G X1 X2 : ℕ) → Digits p F → Digits p G → Digits p X1 → Digits p X2 → F ≤ L → 2 * (G + F) ≤ 2 * L + N → (F ≡ 0 → G ≤ L)
      → (0 < G → X1 < W * G) → (G ≡ 0 → X1 ≡ 0) → (0 < F → X2 < W * F) → (F ≡ 0 → X2 ≡ 0) → 2 * (X1 + X2) + W * N < 2 * (W * L)
  total F G X1 X2 f g x1 x2 fl s fz g1 g0 f1 f0 =
      either G (H * N) (λ a. either F (H * N) (λ b. both_low a b) (λ b. high F G X2 X1 f x2 b (f1 (less b)) fl s' g1 g0)) (λ a. either F 0 (λ b. alone a b) (λ b. high' a b))
    where
      less : {a b : ℕ} → a < b → 0 < b
      less h = omega arith

      s' : 2 * (F + G) ≤ 2 * L + N
      s' = omega arith

      -- X ≤ W * H * N where the weight is at most H * N
      low : (G X : ℕ) → G ≤ H * N → (0 < G → X < W * G) → (G ≡ 0 → X ≡ 0) → X < W * (H * N)
      low G X a b c = either G 0
          (λ k. lt_of_le_of_lt (le_of_eq (c (omega arith))) (mul-pos (pow_pos (p + y)) (mul-pos (pow_pos (p - 1)) (pow_pos t))))
          (λ k. lt_of_lt_of_le (b k) (mul-le-mul_left W a))

      both_low : G ≤ H * N → F ≤ H * N → 2 * (X1 + X2) + W * N < 2 * (W * L)
      both_low a b = omega (arith, upto_half X1 x1 (low G X1 a g1 g0), upto_half X2 x2 (low F X2 b f1 f0), wv_pos)

      -- the weight F is above H * N, and G is the other: either
      sum : (F G X2 X1 : ℕ) → X2 + W * N ≤ W * F → X1 < W * G → 2 * (F + G) ≤ 2 * L + N → 2 * (X2 + X1) + W * N < 2 * (W * L)
      sum F G X2 X1 a b s =
          let m = mul-le-mul_left W s in
          let e : W * (2 * (F + G)) ≡ 2 * (W * F + W * G) = mul_left_comm W 2 (F + G) ∙ ap (λ (z : ℕ). 2 * z) (mul-add W F G) in
          let d : W * (2 * L + N) ≡ 2 * (W * L) + W * N = mul-add W (2 * L) N ∙ ap (λ (z : ℕ). z + W * N) (mul_left_comm W 2 L) in
          omega arith

      only : (F X2 : ℕ) → X2 + W * N ≤ W * F → F ≤ L → 2 * (X2 + 0) + W * N < 2 * (W * L)
      only F X2 a l = omega (arith, mul-le-mul_left W l, wv_pos)

      high : (F G X2 X1 : ℕ) → Digits p F → Digits p X2 → H * N < F → X2 < W * F → F ≤ L → 2 * (F + G) ≤ 2 * L + N → (0 < G → X1 < W * G) → (G ≡ 0 → X1 ≡ 0) → 2 * (X1 + X2) + W * N < 2 * (W * L)
      high F G X2 X1 f x2 b c l s g1 g0 = either G 0
          (λ k. let o = only F X2 (from_half F X2 f x2 b c) l in let z : X1 ≡ 0 = g0 (omega arith) in omega arith)
          (λ k. let o = sum F G X2 X1 (from_half F X2 f x2 b c) (g1 k) s in omega arith)

      alone : H * N < G → F ≤ 0 → 2 * (X1 + X2) + W * N < 2 * (W * L)
      alone a b = let e : F ≡ 0 = omega arith in let o = only G X1 (from_half G X1 g x1 a (g1 (less a))) (fz e) in let z = f0 e in omega arith

      high' : H * N < G → 0 < F → 2 * (X1 + X2) + W * N < 2 * (W * L)
      high' a b = sum G F X1 X2 (from_half G X1 g x1 a (g1 (less a))) (f1 b) s

-- ---- a rounded product A * G / L, where A is at most (2 ^ p - 1) * L * 2 ^ y
module _ (p y L A G X : ℕ) (Lp : 0 < L) (c : Close p (A * G * L) (L * L) X) where
  pub weighed : A + L * 2 ^ y ≤ 2 ^ p * (L * 2 ^ y) → 0 < G → X < 2 ^ (p + y) * G
  weighed h Gp =
      lt_of_lt_of_le (strict p (A * G * L) (L * L) (2 ^ y * G) X (mul-pos Lp Lp) (mul-pos (pow_pos y) Gp) (scaled (2 ^ p) (2 ^ y) h) c)
      (le_of_eq (sym (mul_assoc (2 ^ p) (2 ^ y) G) ∙ ap (λ (z : ℕ). z * G) (sym (pow-add 2 p y))))
    where
      a_is : A * (G * L) ≡ A * G * L
      a_is = sym (mul_assoc A G L)

      b_is : (Y : ℕ) → L * Y * (G * L) ≡ L * L * (Y * G)
      b_is Y = simp (mul_assoc, mul_comm, mul_left_comm)

      c_is : (U Y : ℕ) → U * (L * Y) * (G * L) ≡ L * L * (U * (Y * G))
      c_is U Y = simp (mul_assoc, mul_comm, mul_left_comm)

      scaled : (U Y : ℕ) → A + L * Y ≤ U * (L * Y) → A * G * L + L * L * (Y * G) ≤ L * L * (U * (Y * G))
      scaled U Y h = omega (arith, mul-le-mul_right (G * L) h, add-mul A (L * Y) (G * L), a_is, b_is Y, c_is U Y)

  pub nothing : G ≡ 0 → X ≡ 0
  nothing z = either X 0 (λ k. omega arith) (λ k. absurd (no k c))
    where
      n_is : A * G * L ≡ 0
      n_is = ap (λ (g : ℕ). A * g * L) z ∙ ap (λ (g : ℕ). g * L) {x = A * 0} {y = 0} (omega arith) ∙ omega arith

      no : 0 < X → Close p (A * G * L) (L * L) X → ⊥
      no k (tiny h) =
          let d = mul-pos Lp Lp in
          let m : 1 * (L * L) ≤ X * (L * L) = mul-le-mul_right (L * L) k in
          omega (arith, n_is)
      no k (part h) =
          let m : 0 < 2 ^ p * (X * (L * L)) = mul-pos (pow_pos p) (mul-pos k (mul-pos Lp Lp)) in
          let e : 2 ^ p * (A * G * L) ≡ 0 = ap (λ (g : ℕ). 2 ^ p * g) n_is ∙ omega arith in
          omega (arith, n_is)
