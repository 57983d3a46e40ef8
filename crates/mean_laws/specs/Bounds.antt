-- How large a weighted mean is, over whole numbers: L units are 1, F and G are the weights, A and B at most M in size, X1 and X2 the rounded products, w their rounded sum.
-- Nothing here is about floats. Assumes nothing.
use Rattle.std.specs.Prelude.{◌≡◌, ℕ, ◌+◌, ◌-◌, ◌*◌, ◌^◌, ◌≤◌, ◌<◌}
use Rattle.std.proofs.Common.{sym, ap, ◌∙◌, le_trans, le_of_eq, mul_comm, mul_assoc, mul_left_comm, mul-one, mul-add, add-mul, mul-le-mul_left, mul-le-mul_right, le_of_mul-le-mul_right, arith}
use Rattle.std.proofs.Math.Nat.{le_of_mul-le-mul_left}
use Rattle.mean_laws.specs.Grids.{Close, tiny, part}

-- a whole number c, rounded
pub close_whole : (p c d X : ℕ) → 0 < d → Close p (c * d) d X → 2 ^ p * X ≤ 2 ^ p * c + c
close_whole p c d X D (tiny h) = go
  where
    e : 2 * (X * d) ≡ (2 * X) * d
    e = sym (mul_assoc 2 X d)

    g : 2 * (c * d) + d ≡ (2 * c + 1) * d
    g = sym (add-mul (2 * c) 1 d ∙ omega (arith, mul_assoc 2 c d))

    k : 2 * X ≤ 2 * c + 1
    k = le_of_mul-le-mul_right {k = d} (le_trans (le_of_eq (sym e)) (le_trans h (le_of_eq g))) D

    go : 2 ^ p * X ≤ 2 ^ p * c + c
    go = let l : X ≤ c = omega (arith, k) in omega (arith, mul-le-mul_left (2 ^ p) l)
close_whole p c d X D (part h) =
    le_of_mul-le-mul_right {k = d} (le_trans (le_of_eq (mul_assoc (2 ^ p) X d)) (le_trans h (le_of_eq (sym (add-mul (2 ^ p * c) c d ∙ ap (λ (z : ℕ). z + c * d) (mul_assoc (2 ^ p) c d)))))) D

-- a fraction c / L of units, rounded
pub close_part : (p c L X : ℕ) → 0 < L → Close p (c * L) (L * L) X → 2 * (2 ^ p * (X * L)) ≤ 2 * (2 ^ p * c) + 2 * c + 2 ^ p * L
close_part p c L X P h = le_of_mul-le-mul_right {k = L} (le_trans (le_of_eq left) (le_trans (go h) (le_of_eq (sym right)))) P
  where
    left : 2 * (2 ^ p * (X * L)) * L ≡ 2 * (2 ^ p * (X * (L * L)))
    left = simp (mul_assoc)

    right : (2 * (2 ^ p * c) + 2 * c + 2 ^ p * L) * L ≡ 2 * (2 ^ p * (c * L)) + 2 * (c * L) + 2 ^ p * (L * L)
    right = simp (add-mul, mul_assoc)

    go : Close p (c * L) (L * L) X → 2 * (2 ^ p * (X * (L * L))) ≤ 2 * (2 ^ p * (c * L)) + 2 * (c * L) + 2 ^ p * (L * L)
    go (tiny k) =
        let m = mul-le-mul_left (2 ^ p) k in
        let a : 2 ^ p * (2 * (X * (L * L))) ≡ 2 * (2 ^ p * (X * (L * L))) = mul_left_comm (2 ^ p) 2 (X * (L * L)) in
        let b : 2 ^ p * (2 * (c * L) + L * L) ≡ 2 * (2 ^ p * (c * L)) + 2 ^ p * (L * L) = mul-add (2 ^ p) (2 * (c * L)) (L * L) ∙ ap (λ (z : ℕ). z + 2 ^ p * (L * L)) (mul_left_comm (2 ^ p) 2 (c * L)) in
        omega arith
    go (part k) = omega arith

-- U is 2 ^ p, of which only this is used: it is 3 at least
module _ (U L M F G A B X1 X2 S w : ℕ) (three : 3 ≤ U) (Lp : 0 < L) (am : A ≤ M) (bm : B ≤ M) (fl : F ≤ L)
    (gh : U * G ≤ U * (L - F) + (L - F))
    (h1 : 2 * (U * (X1 * L)) ≤ 2 * (U * (A * G)) + 2 * (A * G) + U * L)
    (h2 : 2 * (U * (X2 * L)) ≤ 2 * (U * (B * F)) + 2 * (B * F) + U * L)
    (s : S ≡ X1 + X2) (hw : U * w ≤ U * S + S) where
  -- the weights
  weights : U * (G + F) ≤ U * L + L
  weights =
      let e : U * (L - F) + U * F ≡ U * L = sym (mul-add U (L - F) F) ∙ ap (λ (z : ℕ). U * z) {x = L - F + F} {y = L} (omega arith) in
      omega (arith, mul-add U G F)

  -- the products' sum, over L
  products : U * (S * L) ≤ U * (M * (G + F)) + M * (G + F) + U * L
  products =
      let a = mul-le-mul_right G am in
      let b = mul-le-mul_right F bm in
      let a' = mul-le-mul_left U a in
      let b' = mul-le-mul_left U b in
      let e : S * L ≡ X1 * L + X2 * L = ap (λ (z : ℕ). z * L) s ∙ add-mul X1 X2 L in
      let e' : U * (S * L) ≡ U * (X1 * L) + U * (X2 * L) = ap (λ (z : ℕ). U * z) e ∙ mul-add U (X1 * L) (X2 * L) in
      let g = mul-add M G F in
      let g' : U * (M * (G + F)) ≡ U * (M * G) + U * (M * F) = ap (λ (z : ℕ). U * z) g ∙ mul-add U (M * G) (M * F) in
      omega arith

  -- U times that, the weights put in, and L taken out
  squared : U * (U * S) ≤ U * (U * M) + 2 * (U * M) + M + U * U
  squared = le_of_mul-le-mul_right {k = L} (le_trans (le_of_eq left) (le_trans mid (le_of_eq (sym right)))) Lp
    where
      left : U * (U * S) * L ≡ U * (U * (S * L))
      left = simp mul_assoc

      right : (U * (U * M) + 2 * (U * M) + M + U * U) * L ≡ U * (U * (M * L)) + 2 * (U * (M * L)) + M * L + U * (U * L)
      right = simp (add-mul, mul_assoc)

      k : M * (U * (G + F)) ≤ M * (U * L + L)
      k = mul-le-mul_left M weights

      k_l : M * (U * (G + F)) ≡ U * (M * (G + F))
      k_l = mul_left_comm M U (G + F)

      k_r : M * (U * L + L) ≡ U * (M * L) + M * L
      k_r = mul-add M (U * L) L ∙ ap (λ (z : ℕ). z + M * L) (mul_left_comm M U L)

      one : U * (M * (G + F)) ≤ U * (M * L) + M * L
      one = omega (arith, k, k_l, k_r)

      two : U * (U * (M * (G + F))) ≤ U * (U * (M * L)) + U * (M * L)
      two = le_trans (mul-le-mul_left U one) (le_of_eq (mul-add U (U * (M * L)) (M * L)))

      mid : U * (U * (S * L)) ≤ U * (U * (M * L)) + 2 * (U * (M * L)) + M * L + U * (U * L)
      mid =
          let m = mul-le-mul_left U products in
          let e : U * (U * (M * (G + F)) + M * (G + F) + U * L) ≡ U * (U * (M * (G + F))) + U * (M * (G + F)) + U * (U * L) = mul-add U (U * (M * (G + F)) + M * (G + F)) (U * L) ∙ ap (λ (z : ℕ). z + U * (U * L)) (mul-add U (U * (M * (G + F))) (M * (G + F))) in
          omega (arith, one, two)

  -- U taken out
  summed : U * S ≤ U * M + 3 * M + U
  summed =
      le_of_mul-le-mul_left {k = U}
      (le_trans squared (let l : M ≤ U * M = le_trans (le_of_eq (sym (mul-one M))) (le_trans (mul-le-mul_left M one_le) (le_of_eq (mul_comm M U))) in
      let e : U * (U * M + 3 * M + U) ≡ U * (U * M) + 3 * (U * M) + U * U = mul-add U (U * M + 3 * M) U ∙ ap (λ (z : ℕ). z + U * U) (mul-add U (U * M) (3 * M) ∙ ap (λ (z : ℕ). U * (U * M) + z) (mul_left_comm U 3 M)) in
      omega arith))
      one_le
    where
      one_le : 1 ≤ U
      one_le = omega arith

  half_sum : S ≤ 2 * M + 1
  half_sum =
      le_of_mul-le-mul_left {k = U}
      (let m : M * 3 ≤ M * U = mul-le-mul_left M three in
      let c = mul_comm M U in
      let e : U * (2 * M + 1) ≡ 2 * (U * M) + U = mul-add U (2 * M) 1 ∙ omega (arith, mul_left_comm U 2 M) in
      omega (arith, summed))
      (let z : 0 < U = omega arith in z)

  -- at most 5 parts in U, and a little more than a unit, above M
  pub mean_size : U * w ≤ U * M + 5 * M + U + 1
  mean_size = omega (arith, summed, half_sum)
