-- One line of whole numbers for the values of a format: `place f x` counts, in units of the format's smallest value, from -∞ (0) over zero (`mid f`) to ∞ (2 * mid f).
-- Between numbers that the format holds, `lt`, `eq` and `le` compare the places, so a law of the order is a fact for `omega`. Assumes nothing.
use Rattle.std.specs.Prelude.{◌≡◌, refl, not, ◌&&◌, ◌||◌, cond, ℤ, pos, negsuc, T, Float}
use Rattle.std.proofs.Math.Path.{sym, ap}
use Rattle.std.proofs.Common.{◌∙◌, le_refl, le_of_eq, lt_of_lt_of_le, not-le_of_lt, le_antisymm, mul_comm, mul_assoc, mul-one, zero-mul, mul-pos, mul_right_comm, add-mul, mul-lt-mul_of_pos_right, arith, lt→ltb, le→leb, eqb→eq, nltb→le, pow-add, pow_pos}
use Prim.Native.Nat.{ℕ, zero, suc, ◌+◌, ◌-◌, ◌*◌, ◌/◌, ◌%◌, ◌^◌, ◌≤◌, ◌<◌}
use Rattle.std.proofs.Math.Nat.{le_trans, lt_of_le_of_lt, mul-div_cancel, lt_of_mul-lt-mul_right, eq_of_mul-eq-mul_right}
use Rattle.std.proofs.Math.Bool.{Bool, true, false}
use Rattle.std.specs.Bool.{beq}
use Rattle.std.proofs.Math.Dec.{leb, ltb, eqb, ltb→lt, leb→le, nleb→lt}
use Rattle.std.proofs.Math.Pow.{pow-lt}
use Rattle.std.specs.Float.Ieee.{nan, prec, emax, low, up, down, below, level, lt, eq, le, fits}
use Rattle.std.specs.Float.{inf, fin, Format}
use Rattle.std.specs.Float.Ieee.Fits.{up_pos, down_pos, and_l, and_r, and_i, eq→eqb}
use Rattle.std.specs.Float.Ieee.Digits.{back}
use Rattle.float.specs.Ops.{number}

-- how many of the format's smallest values make the value's size; a NaN has size 0
unfoldable pub mag : Format → Float → ℕ
mag f nan = 0
mag f (inf s) = 2 ^ (low f + suc (emax f))
mag f (fin s m e) = m * up e * 2 ^ low f / down e

-- the place of zero
unfoldable pub mid : Format → ℕ
mid f = 2 ^ (low f + suc (emax f))

-- the place at the distance p from M, below it where s is true
abbrev pub side : ℕ → Bool → ℕ → ℕ
side M s p = cond s (M - p) (M + p)

-- the place of a value
unfoldable pub place : Format → Float → ℕ
place f nan = 0
place f (inf s) = side (mid f) s (mag f (inf s))
place f (fin s m e) = side (mid f) s (mag f (fin s m e))

-- ---- a finite value is `mag` units in size, exactly
-- the smaller power of two has the smaller exponent
pub pow_back : (i j : ℕ) → 2 ^ i ≤ 2 ^ j → i ≤ j
pow_back i j h = go (leb i j) (leb→le i j) (nleb→lt i j)
  where
    go : (b : Bool) → (T b → i ≤ j) → (T (not b) → j < i) → i ≤ j
    go true p q = p tt
    go false p q = absurd (not-le_of_lt (pow-lt (q tt)) h)

whole_units : (e : ℤ) (l : ℕ) → down e ≤ 2 ^ l → (k : ℕ) × (2 ^ l ≡ k * down e)
whole_units (pos j) l h = (2 ^ l, sym (mul-one (2 ^ l)))
whole_units (negsuc j) l h = (2 ^ (l - suc j), ap (λ (x : ℕ). 2 ^ x) (sym (back l (suc j) (pow_back (suc j) l h))) ∙ pow-add 2 (l - suc j) (suc j))

one_down : (u d : ℕ) → 0 < u → u * d ≡ 1 → d ≤ 1
one_down zero (suc (suc d)) p h = elim p [ ]
one_down u zero p h = omega arith
one_down u (suc zero) p h = le_refl 1
one_down (suc u) (suc (suc d)) p h = omega arith

module _ (f : Format) (s : Bool) (e : ℤ) where
  -- a value's fraction is no finer than the format's
  pub down_le : (m : ℕ) → T (fits f (fin s m e)) → down e ≤ 2 ^ low f
  unfolding fits
  down_le zero h = le_trans (one_down (up e) (down e) (up_pos e) (eqb→eq (up e * down e) 1 h)) (pow_pos (low f))
  down_le (suc m) h =
      let p : Bool = eqb (suc m % 2) 1 && ltb (suc m) (2 ^ prec f) in
      leb→le (down e) (2 ^ low f) (and_r p (leb (down e) (2 ^ low f)) (and_l (p && leb (down e) (2 ^ low f)) (ltb (suc m * up e) (2 ^ suc (emax f) * down e)) h))

  top_lt : (m : ℕ) → T (fits f (fin s m e)) → m * up e < 2 ^ suc (emax f) * down e
  unfolding fits
  top_lt zero h = lt_of_le_of_lt (le_of_eq (zero-mul (up e))) (mul-pos (pow_pos (suc (emax f))) (down_pos e))
  top_lt (suc m) h =
      ltb→lt (suc m * up e) (2 ^ suc (emax f) * down e) (and_r (eqb (suc m % 2) 1 && ltb (suc m) (2 ^ prec f) && leb (down e) (2 ^ low f)) (ltb (suc m * up e) (2 ^ suc (emax f) * down e)) h)

  -- m * 2 ^ e is mag / 2 ^ low
  pub mag_exact : (m : ℕ) → T (fits f (fin s m e)) → m * up e * 2 ^ low f ≡ mag f (fin s m e) * down e
  unfolding mag
  mag_exact m h =
      let w = whole_units e (low f) (down_le m h) in
      let x : m * up e * 2 ^ low f ≡ m * up e * w.0 * down e = ap (λ (z : ℕ). m * up e * z) w.1 ∙ sym (mul_assoc (m * up e) w.0 (down e)) in
      x ∙ ap (λ (z : ℕ). z * down e) (sym (ap (λ (z : ℕ). z / down e) x ∙ mul-div_cancel (m * up e * w.0) (down_pos e)))

  -- a finite value is smaller than an infinity
  pub mag_lt : (m : ℕ) → T (fits f (fin s m e)) → mag f (fin s m e) < mid f
  unfolding mid
  mag_lt m h =
      lt_of_mul-lt-mul_right (down e)
      (lt_of_le_of_lt (le_of_eq (sym (mag_exact m h)))
      (lt_of_lt_of_le (mul-lt-mul_of_pos_right (top_lt m h) (pow_pos (low f)))
      (le_of_eq (mul_right_comm (2 ^ suc (emax f)) (down e) (2 ^ low f) ∙ ap (λ (z : ℕ). z * down e) (mul_comm (2 ^ suc (emax f)) (2 ^ low f) ∙ sym (pow-add 2 (low f) (suc (emax f))))))))

-- an infinity's size, and its place
pub mag_inf : (f : Format) (s : Bool) → mag f (inf s) ≡ mid f
unfolding mag mid
mag_inf f s = refl

pub place_inf : (f : Format) (s : Bool) → place f (inf s) ≡ cond s 0 (mid f + mid f)
unfolding place
place_inf f true = omega (arith, mag_inf f true)
place_inf f false = omega (arith, mag_inf f false)

-- zero lies above -∞
pub mid_pos : (f : Format) → 0 < mid f
unfolding mid
mid_pos f = pow_pos (low f + suc (emax f))

-- a finite value lies between the infinities
module _ (f : Format) (e : ℤ) where
  pub fin_above : (s : Bool) (m : ℕ) → T (fits f (fin s m e)) → 0 < place f (fin s m e)
  unfolding place
  fin_above true m h = omega (arith, mag_lt f true e m h)
  fin_above false m h = omega (arith, mag_lt f false e m h)

  pub fin_under : (s : Bool) (m : ℕ) → T (fits f (fin s m e)) → place f (fin s m e) < mid f + mid f
  unfolding place
  fin_under true m h = omega (arith, mag_lt f true e m h)
  fin_under false m h = omega (arith, mag_lt f false e m h)

-- ---- tests that agree
-- two tests that pass together are one
same_test : (a b : Bool) → (T a → T b) → (T b → T a) → a ≡ b
same_test true true p q = refl
same_test true false p q = absurd (p tt)
same_test false true p q = absurd (q tt)
same_test false false p q = refl

ltb_same : (a b p q : ℕ) → (a < b → p < q) → (p < q → a < b) → ltb a b ≡ ltb p q
ltb_same a b p q h k = same_test (ltb a b) (ltb p q) (λ t. lt→ltb p q (h (ltb→lt a b t))) (λ t. lt→ltb a b (k (ltb→lt p q t)))

eqb_same : (a b p q : ℕ) → (a ≡ b → p ≡ q) → (p ≡ q → a ≡ b) → eqb a b ≡ eqb p q
eqb_same a b p q h k = same_test (eqb a b) (eqb p q) (λ t. eq→eqb (h (eqb→eq a b t))) (λ t. eq→eqb (k (eqb→eq p q t)))

nltb : (p q : ℕ) → q ≤ p → false ≡ ltb p q
nltb p q h = same_test false (ltb p q) (λ t. absurd t) (λ t. absurd (not-le_of_lt (ltb→lt p q t) h))

yltb : (p q : ℕ) → p < q → true ≡ ltb p q
yltb p q h = same_test true (ltb p q) (λ t. lt→ltb p q h) (λ t. tt)

neqb : (p q : ℕ) → (p ≡ q → ⊥) → false ≡ eqb p q
neqb p q h = same_test false (eqb p q) (λ t. absurd t) (λ t. absurd (h (eqb→eq p q t)))

yeqb : (p : ℕ) → true ≡ eqb p p
yeqb p = same_test true (eqb p p) (λ t. eq→eqb {a = p} {b = p} refl) (λ t. tt)

and_true : (b : Bool) → b && true ≡ b
and_true true = refl
and_true false = refl

-- ---- a / c is p / l, and b / c is q / l
module _ (a b c p q l : ℕ) (C : 0 < c) (L : 0 < l) (h : a * l ≡ p * c) (k : b * l ≡ q * c) where
  frac_lt : a < b → p < q
  frac_lt x = lt_of_mul-lt-mul_right c (lt_of_le_of_lt (le_of_eq (sym h)) (lt_of_lt_of_le (mul-lt-mul_of_pos_right x L) (le_of_eq k)))

  lt_frac : p < q → a < b
  lt_frac x = lt_of_mul-lt-mul_right l (lt_of_le_of_lt (le_of_eq h) (lt_of_lt_of_le (mul-lt-mul_of_pos_right x C) (le_of_eq (sym k))))

  frac_eq : a ≡ b → p ≡ q
  frac_eq x = eq_of_mul-eq-mul_right c C p q (sym h ∙ ap (λ (z : ℕ). z * l) x ∙ k)

  eq_frac : p ≡ q → a ≡ b
  eq_frac x = eq_of_mul-eq-mul_right l L a b (h ∙ ap (λ (z : ℕ). z * c) x ∙ sym k)

  -- so the tests agree
  pub same_lt : ltb a b ≡ ltb p q
  same_lt = ltb_same a b p q frac_lt lt_frac

  same_eq : eqb a b ≡ eqb p q
  same_eq = eqb_same a b p q frac_eq eq_frac

-- two fractions over one denominator
pub cross_l : (a l p de dd : ℕ) → a * l ≡ p * de → a * dd * l ≡ p * (de * dd)
cross_l a l p de dd h = mul_right_comm a dd l ∙ ap (λ (z : ℕ). z * dd) h ∙ mul_assoc p de dd

pub cross_r : (b l q de dd : ℕ) → b * l ≡ q * dd → b * de * l ≡ q * (de * dd)
cross_r b l q de dd h = mul_right_comm b de l ∙ ap (λ (z : ℕ). z * de) h ∙ mul_assoc q dd de ∙ ap (λ (z : ℕ). q * z) (mul_comm dd de)

-- ---- the signed tests: M is the middle, and p and q stay below it
module _ (p q M : ℕ) (P : p < M) (Q : q < M) where
  side_lt : (s t : Bool) → below s p t q ≡ ltb (side M s p) (side M t q)
  side_lt false false = ltb_same p q (M + p) (M + q) (λ x. omega arith) (λ x. omega arith)
  side_lt false true = nltb (M + p) (M - q) (omega arith)
  side_lt true false = ltb_same 0 (p + q) (M - p) (M + q) (λ x. omega arith) (λ x. omega arith)
  side_lt true true = ltb_same q p (M - p) (M - q) (λ x. omega arith) (λ x. omega arith)

  both_zero : (u v : ℕ) → (u ≡ v → (p ≡ q) × (p ≡ 0)) → (p ≡ q → p ≡ 0 → u ≡ v) → eqb p q && eqb p 0 ≡ eqb u v
  both_zero u v h k = same_test (eqb p q && eqb p 0) (eqb u v)
      (λ t. eq→eqb (k (eqb→eq p q (and_l (eqb p q) (eqb p 0) t)) (eqb→eq p 0 (and_r (eqb p q) (eqb p 0) t))))
      (λ t. let w = h (eqb→eq u v t) in and_i (eqb p q) (eqb p 0) (eq→eqb w.0) (eq→eqb w.1))

  side_eq : (s t : Bool) → level s p t q ≡ eqb (side M s p) (side M t q)
  side_eq false false = and_true (eqb p q) ∙ eqb_same p q (M + p) (M + q) (λ x. omega arith) (λ x. omega arith)
  side_eq false true = both_zero (M + p) (M - q) (λ x. (omega arith, omega arith)) (λ x y. omega arith)
  side_eq true false = both_zero (M - p) (M + q) (λ x. (omega arith, omega arith)) (λ x y. omega arith)
  side_eq true true = and_true (eqb p q) ∙ eqb_same p q (M - p) (M - q) (λ x. omega arith) (λ x. omega arith)

module _ (a b c p q l : ℕ) (C : 0 < c) (L : 0 < l) (h : a * l ≡ p * c) (k : b * l ≡ q * c) where
  zeros : 0 * l ≡ 0 * c
  zeros = zero-mul l ∙ sym (zero-mul c)

  below_frac : (s t : Bool) → below s a t b ≡ below s p t q
  below_frac false false = same_lt a b c p q l C L h k
  below_frac false true = refl
  below_frac true false = same_lt 0 (a + b) c 0 (p + q) l C L zeros (add-mul a b l ∙ (λ i. h i + k i) ∙ sym (add-mul p q c))
  below_frac true true = same_lt b a c q p l C L k h

  level_frac : (s t : Bool) → level s a t b ≡ level s p t q
  level_frac s t = λ i. same_eq a b c p q l C L h k i && (beq s t || same_eq a 0 c p 0 l C L h zeros i)

-- ---- the order is that of the places
module _ (f : Format) where
  module _ (s : Bool) (m : ℕ) (e : ℤ) (t : Bool) (n : ℕ) (d : ℤ) (g : T (fits f (fin s m e))) (h : T (fits f (fin t n d))) where
    abbrev p : ℕ
    p = mag f (fin s m e)

    abbrev q : ℕ
    q = mag f (fin t n d)

    C : 0 < down e * down d
    C = mul-pos (down_pos e) (down_pos d)

    H : m * up e * down d * 2 ^ low f ≡ p * (down e * down d)
    H = cross_l (m * up e) (2 ^ low f) p (down e) (down d) (mag_exact f s e m g)

    K : n * up d * down e * 2 ^ low f ≡ q * (down e * down d)
    K = cross_r (n * up d) (2 ^ low f) q (down e) (down d) (mag_exact f t d n h)

    lt_fin : lt (fin s m e) (fin t n d) ≡ ltb (place f (fin s m e)) (place f (fin t n d))
    unfolding lt place
    lt_fin = below_frac (m * up e * down d) (n * up d * down e) (down e * down d) p q (2 ^ low f) C (pow_pos (low f)) H K s t ∙ side_lt p q (mid f) (mag_lt f s e m g) (mag_lt f t d n h) s t

    eq_fin : eq (fin s m e) (fin t n d) ≡ eqb (place f (fin s m e)) (place f (fin t n d))
    unfolding eq place
    eq_fin = level_frac (m * up e * down d) (n * up d * down e) (down e * down d) p q (2 ^ low f) C (pow_pos (low f)) H K s t ∙ side_eq p q (mid f) (mag_lt f s e m g) (mag_lt f t d n h) s t

  -- `lt` of two numbers that the format holds is that of their places
  pub lt_is : (x y : Float) → T (fits f x) → T (fits f y) → T (number x) → T (number y) → lt x y ≡ ltb (place f x) (place f y)
  unfolding lt
  lt_is nan y g h p q = absurd p
  lt_is (inf s) nan g h p q = absurd q
  lt_is (inf true) (inf true) g h p q = nltb (place f (inf true)) (place f (inf true)) (le_refl _)
  lt_is (inf false) (inf false) g h p q = nltb (place f (inf false)) (place f (inf false)) (le_refl _)
  lt_is (inf true) (inf false) g h p q = yltb (place f (inf true)) (place f (inf false)) (omega (arith, place_inf f true, place_inf f false, mid_pos f))
  lt_is (inf false) (inf true) g h p q = nltb (place f (inf false)) (place f (inf true)) (omega (arith, place_inf f true, place_inf f false, mid_pos f))
  lt_is (inf true) (fin t n d) g h p q = yltb (place f (inf true)) (place f (fin t n d)) (omega (arith, place_inf f true, fin_above f d t n h))
  lt_is (inf false) (fin t n d) g h p q = nltb (place f (inf false)) (place f (fin t n d)) (omega (arith, place_inf f false, fin_under f d t n h))
  lt_is (fin s m e) nan g h p q = absurd q
  lt_is (fin s m e) (inf true) g h p q = nltb (place f (fin s m e)) (place f (inf true)) (omega (arith, place_inf f true, fin_above f e s m g))
  lt_is (fin s m e) (inf false) g h p q = yltb (place f (fin s m e)) (place f (inf false)) (omega (arith, place_inf f false, fin_under f e s m g))
  lt_is (fin s m e) (fin t n d) g h p q = lt_fin s m e t n d g h

  -- `eq`, the same
  pub eq_is : (x y : Float) → T (fits f x) → T (fits f y) → T (number x) → T (number y) → eq x y ≡ eqb (place f x) (place f y)
  unfolding eq
  eq_is nan y g h p q = absurd p
  eq_is (inf s) nan g h p q = absurd q
  eq_is (inf true) (inf true) g h p q = yeqb (place f (inf true))
  eq_is (inf false) (inf false) g h p q = yeqb (place f (inf false))
  eq_is (inf true) (inf false) g h p q = neqb (place f (inf true)) (place f (inf false)) (λ z. omega (arith, z, place_inf f true, place_inf f false, mid_pos f))
  eq_is (inf false) (inf true) g h p q = neqb (place f (inf false)) (place f (inf true)) (λ z. omega (arith, z, place_inf f true, place_inf f false, mid_pos f))
  eq_is (inf true) (fin t n d) g h p q = neqb (place f (inf true)) (place f (fin t n d)) (λ z. omega (arith, z, place_inf f true, fin_above f d t n h))
  eq_is (inf false) (fin t n d) g h p q = neqb (place f (inf false)) (place f (fin t n d)) (λ z. omega (arith, z, place_inf f false, fin_under f d t n h))
  eq_is (fin s m e) nan g h p q = absurd q
  eq_is (fin s m e) (inf true) g h p q = neqb (place f (fin s m e)) (place f (inf true)) (λ z. omega (arith, z, place_inf f true, fin_above f e s m g))
  eq_is (fin s m e) (inf false) g h p q = neqb (place f (fin s m e)) (place f (inf false)) (λ z. omega (arith, z, place_inf f false, fin_under f e s m g))
  eq_is (fin s m e) (fin t n d) g h p q = eq_fin s m e t n d g h

  or_le : (p q : ℕ) → ltb p q || eqb p q ≡ leb p q
  or_le p q = same_test (ltb p q || eqb p q) (leb p q) (go (ltb p q) (eqb p q) (ltb→lt p q) (eqb→eq p q)) (λ t. back_go (ltb p q) (nltb→le p q) (leb→le p q t))
    where
      go : (a b : Bool) → (T a → p < q) → (T b → p ≡ q) → T (a || b) → T (leb p q)
      go true b h k t = le→leb p q (omega (arith, h tt))
      go false true h k t = le→leb p q (omega (arith, k tt))
      go false false h k t = absurd t

      back_go : (a : Bool) → (T (not a) → q ≤ p) → p ≤ q → T (a || eqb p q)
      back_go true h k = tt
      back_go false h k = eq→eqb (le_antisymm k (h tt))

  -- `le`, the same
  pub le_is : (x y : Float) → T (fits f x) → T (fits f y) → T (number x) → T (number y) → le x y ≡ leb (place f x) (place f y)
  unfolding le
  le_is x y g h p q = (λ i. lt_is x y g h p q i || eq_is x y g h p q i) ∙ or_le (place f x) (place f y)
