-- The unit vector that `unit3` gives is finite: its length is at least 1e-18, and numbers whose squares are finite are at most 2 ^ 512. Assumes nothing.
use Rattle.std.proofs.Math.Path.{◌≡◌}
use Rattle.std.specs.Prelude.{refl, Bool, true, false, ◌||◌, List, [], ◌∷◌, ℕ, ◌+◌, ◌*◌, ◌^◌, ◌≤◌, ◌<◌, ℤ, pos, leb, Float, Option, Some, None}
use Rattle.std.proofs.Common.{sym, ap, ◌∙◌, le_trans, le_of_eq, le_of_lt, le_of_mul-le-mul_right, mul_assoc, mul_left_comm, mul_right_comm, mul_comm, mul-one, mul-pos, mul-le-mul, mul-le-mul_right, arith, leb→le, pow_pos, pow-add}
use Rattle.std.proofs.Math.Bool.{not}
use Rattle.std.proofs.Math.Nat.{mul-mul-mul_comm}
use Rattle.std.proofs.Math.Dec.{T, nleb→lt}
use Rattle.std.specs.Float.{nan, inf, fin}
use Rattle.std.specs.Float.Ieee.{binary64, low, up, down, round, units, add, mul, div, lt, le, fits, of_bits}
use Rattle.std.specs.Float.Ieee.Fits.{down_pos, add-fits, mul-fits}
use Rattle.std.specs.Float.Ieee.Order.{round_mono}
use Rattle.std.specs.Float.Ieee.Scale.{finite}
use Rattle.common.specs.Floats.{one}
use Rattle.common.specs.Lists.{at}
use Rattle.float.specs.Sqrt.{sqrt}
use Rattle.float.specs.SqrtLaws.{sqrt_fits}
use Rattle.float_laws.specs.Place.{mag, mid, place, mag_exact}
use Rattle.float_laws.specs.Order.{Held, held, nlt_up}
use Rattle.float_laws.specs.Signs.{plus, place_plus, square_plus, add_plus, sqrt_plus}
use Rattle.float_laws.specs.Finite.{finite_number, add_finite, mul_finite, sqrt_finite}
use Rattle.float_laws.specs.Sizes.{Within, Beyond, mul_in, div_in}
use Rattle.geom.specs.Vec.{dot3}
use Rattle.geom.specs.Quats.{norm3, least, unit_by, unit3}
use Rattle.run_laws.specs.Values.{Fine3, Fit3}
use Rattle.run_laws.specs.TestLaws.{outcomes}

-- ---- a number whose square is finite

-- 2 ^ 1024 is past the largest f64
huge_is : round binary64 false (2 ^ 1024) 1 ≡ inf false
unfolding round units
huge_is = refl

square_is : (s : Bool) (m : ℕ) (e : ℤ) → mul binary64 (fin s m e) (fin s m e) ≡ round binary64 false (m * up e * (m * up e)) (down e * down e)
unfolding mul
square_is true m e = refl
square_is false m e = refl

-- nothing finite is past infinity
above_inf : (x : Float) → T (finite x) → T (le (inf false) x) → ⊥
unfolding le
above_inf nan p h = p
above_inf (inf s) p h = p
above_inf (fin s m e) p h = h

module _ (s : Bool) (m : ℕ) (e : ℤ) where
  small_is : (k : ℕ) → T (fits binary64 (fin s m e)) → m * up e ≤ 2 ^ k * down e → Within binary64 k (fin s m e)
  small_is k g h = record {
    fit = g;
    fine = tt;
    small =
        le_of_mul-le-mul_right {k = down e}
        (le_trans (le_of_eq (sym (mag_exact binary64 s e m g)))
        (le_trans (mul-le-mul_right (2 ^ low binary64) h)
        (le_of_eq (mul_right_comm (2 ^ k) (down e) (2 ^ low binary64) ∙ ap (λ (z : ℕ). z * down e) (mul_comm (2 ^ k) (2 ^ low binary64) ∙ sym (pow-add 2 (low binary64) k))))))
        (down_pos e);
  }

  -- a half of 2 ^ (k + k) is 2 ^ k: over a variable, since no tactic reads 2 ^ 1024
  over : (k : ℕ) → 2 ^ k * down e < m * up e → 2 ^ (k + k) * (down e * down e) ≤ m * up e * (m * up e)
  over k h = le_trans (le_of_eq (ap (λ (z : ℕ). z * (down e * down e)) (pow-add 2 k k) ∙ mul-mul-mul_comm (2 ^ k) (2 ^ k) (down e) (down e))) (mul-le-mul (le_of_lt h) (le_of_lt h))

  past : 2 ^ 512 * down e < m * up e → T (le (inf false) (mul binary64 (fin s m e) (fin s m e)))
  past h = rw (← huge_is, square_is s m e)
      (round_mono binary64 (2 ^ 1024) 1 (m * up e * (m * up e)) (down e * down e) (pow_pos 0) (mul-pos (down_pos e) (down_pos e))
      (le_trans (over 512 h) (le_of_eq (sym (mul-one (m * up e * (m * up e)))))))

square_in : (x : Float) → T (fits binary64 x) → T (finite (mul binary64 x x)) → Within binary64 512 x
square_in nan g p = absurd (mul_finite binary64 nan nan p).0
square_in (inf s) g p = absurd (mul_finite binary64 (inf s) (inf s) p).0
square_in (fin s m e) g p = go (leb (m * up e) (2 ^ 512 * down e)) (leb→le (m * up e) (2 ^ 512 * down e)) (nleb→lt (m * up e) (2 ^ 512 * down e))
  where
    go : (b : Bool) → (T b → m * up e ≤ 2 ^ 512 * down e) → (T (not b) → 2 ^ 512 * down e < m * up e) → Within binary64 512 (fin s m e)
    go true a b = small_is s m e 512 g (a tt)
    go false a b = absurd (above_inf (mul binary64 (fin s m e) (fin s m e)) p (past s m e (b tt)))

-- ---- a length of 1e-18 at least
least_held : Held binary64 least
unfolding fits of_bits
least_held = held tt tt

least_large : 2 ^ low binary64 ≤ mag binary64 least * 2 ^ 60
unfolding mag of_bits
least_large = leb→le _ _ tt

one_in : Within binary64 0 one
unfolding fits of_bits mag
one_in = record { fit = tt; fine = tt; small = leb→le _ _ tt }

length_beyond : (n : Float) → T (fits binary64 n) → T (finite n) → T (plus n) → T (not (lt n least)) → Beyond binary64 60 n
length_beyond n g p q h = record {
  fit = g;
  fine = p;
  large = le_trans least_large (mul-le-mul_right (2 ^ 60) (below (place_plus binary64 n q) (place_plus binary64 least (unfold of_bits in tt)) (nlt_up binary64 n least (held g (finite_number n p)) least_held h)));
}
  where
    below : place binary64 n ≡ mid binary64 + mag binary64 n → place binary64 least ≡ mid binary64 + mag binary64 least → place binary64 least ≤ place binary64 n → mag binary64 least ≤ mag binary64 n
    below a b c = omega arith

-- ---- the unit vector
either_not : (a b : Bool) → T (not (a || not b)) → T (not a) × T b
either_not true b t = absurd t
either_not false true t = (tt, tt)
either_not false false t = (tt, t)

module _ (v : List Float) (F : Fit3 v) where
  abbrev n : Float
  n = norm3 v

  parts_fine : T (finite n) → T (not (lt n least)) → Fine3 (mul binary64 (at v 0) (div binary64 one n) ∷ mul binary64 (at v 1) (div binary64 one n) ∷ mul binary64 (at v 2) (div binary64 one n) ∷ [])
  unfolding norm3
  parts_fine fn h =
      let xx = mul binary64 (at v 0) (at v 0) in
      let yy = mul binary64 (at v 1) (at v 1) in
      let zz = mul binary64 (at v 2) (at v 2) in
      let s = dot3 v v in
      let fs : T (finite s) = sqrt_finite binary64 s fn in
      let c = add_finite binary64 (add binary64 xx yy) zz fs in
      let d = add_finite binary64 xx yy c.0 in
      let px = square_plus binary64 (at v 0) (finite_number (at v 0) (mul_finite binary64 (at v 0) (at v 0) d.0).0) in
      let py = square_plus binary64 (at v 1) (finite_number (at v 1) (mul_finite binary64 (at v 1) (at v 1) d.1).0) in
      let pz = square_plus binary64 (at v 2) (finite_number (at v 2) (mul_finite binary64 (at v 2) (at v 2) c.1).0) in
      let ps = add_plus binary64 (add binary64 xx yy) zz (add_plus binary64 xx yy px py) pz in
      let inv : Within binary64 60 (div binary64 one n) = div_in {j = 0} {k = 60} one_in (length_beyond n (sqrt_fits binary64 s (add-fits binary64 _ _)) fn (sqrt_plus binary64 s ps) h) tt in (
        (mul_in {j = 512} {k = 60} (square_in (at v 0) F.0 d.0) inv tt).fine,
        (mul_in {j = 512} {k = 60} (square_in (at v 1) F.1 d.1) inv tt).fine,
        (mul_in {j = 512} {k = 60} (square_in (at v 2) F.2 c.1) inv tt).fine,
      )

  -- UNIT: a unit vector's parts are finite
  pub unit_fine : (x y z : Float) → unit3 v ≡ Some (x, y, z) → T (finite x) × T (finite y) × T (finite z)
  unfolding unit_by
  unit_fine x y z e = outcomes (λ (a : Option (Float × Float × Float)). a ≡ Some (x, y, z)) (lt n least || not (finite n)) _ _ (λ t k. not_is k) (λ t k. let r = either_not (lt n least) (finite n) t in same k (parts_fine r.1 r.0)) e
    where
      not_is : {X : Type 0} → ◌≡◌ {A = Option (Float × Float × Float)} None (Some (x, y, z)) → X
      not_is h = let o : ◌≡◌ {A = ℕ} 0 1 = cc in absurd (omega arith)

      part : (Float × Float × Float → Float) → Option (Float × Float × Float) → Float
      part f (Some u) = f u
      part f None = x

      same : {a b c : Float} → ◌≡◌ {A = Option (Float × Float × Float)} (Some (a, b, c)) (Some (x, y, z)) → T (finite a) × T (finite b) × T (finite c) → T (finite x) × T (finite y) × T (finite z)
      same {a} {b} {c} h f =
          let p : a ≡ x = ap (part (λ u. u.0)) h in
          let q : b ≡ y = ap (part (λ u. u.1)) h in
          let r : c ≡ z = ap (part (λ u. u.2)) h in
          (rw (← p) f.0, rw (← q) f.1, rw (← r) f.2)
