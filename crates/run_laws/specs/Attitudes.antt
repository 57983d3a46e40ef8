-- Attitudes: the exponential is refused unless its vector is finite, and what `normalized` answers has parts of at most 2 ^ 56 in size. Assumes nothing.
use Rattle.std.specs.Prelude.{◌≡◌, Bool, true, false, ◌&&◌, ◌||◌, List, ℕ, T, Float, Option, Some, None}
use Rattle.std.proofs.Math.Bool.{not}
use Rattle.std.proofs.Common.{arith}
use Rattle.std.specs.Float.Ieee.{binary64, sub, mul, div, neg, lt, le, eq, of_bits}
use Rattle.std.specs.Float.Ieee.Fits.{and_l, and_r, add-fits, sub-fits}
use Rattle.std.specs.Float.Ieee.Scale.{finite}
use Rattle.common.specs.Floats.{one, plus_zero}
use Rattle.float.specs.Ops.{abs}
use Rattle.float_laws.specs.Finite.{finites, mul_finite, sqrt_finite, lt_sqrt, between_finite}
use Rattle.float_laws.specs.Unit.{Below1, unit_in}
use Rattle.angles.specs.Angles as Angles
use Rattle.geom.specs.Vec.{dot3, half}
use Rattle.geom.specs.Quats.{quat_mul, scale_q, norm3, norm_q, finite_q, normal_by, normalized, tiny, exp_of, exp_at, exp_so3}
use Rattle.geom.specs.Halves.{on_both}
use Rattle.geom.specs.declared.Quat.{Quat}
use Rattle.run_laws.specs.Values.{Fine3, FitsQ, WithinQ}
use Rattle.run_laws.specs.TestLaws.{outcomes}

-- ---- the exponential
abbrev is_angle : Option Float → Bool
is_angle (Some x) = true
is_angle None = false

abbrev pub is_turned : Option Quat → Bool
is_turned (Some q) = true
is_turned None = false

most_finite : T (finite Angles.most) × T (finite (neg Angles.most))
unfolding of_bits neg
most_finite = (tt, tt)

range_finite : (x : Float) → T (Angles.in_range x) → T (finite x)
unfolding Angles.in_range
range_finite x t = between_finite x (neg Angles.most) Angles.most most_finite.1 most_finite.0 (and_l (le (neg Angles.most) x) (le x Angles.most) t) (and_r (le (neg Angles.most) x) (le x Angles.most) t)

-- a sine that is not refused has a finite argument
sin_finite : (x : Float) → T (is_angle (Angles.sin_of x)) → T (finite x)
unfolding Angles.sin_of Angles.region_of
sin_finite x t = outcomes (λ z. T (is_angle (Angles.sin_by z x))) (Angles.in_range x) _ _ (λ r k. range_finite x r) (λ r k. absurd k) t

by_sine : (v : List Float) (n : Float) (s c : Option Float) → T (is_turned (on_both None (exp_of v n) s c)) → T (is_angle s)
by_sine v n (Some s) c t = tt
by_sine v n None c t = t

length_finite : (v : List Float) → T (finite (dot3 v v)) → Fine3 v
length_finite v t = search finites

-- an exponential that is not refused has a finite vector
pub exp_finite : (v : List Float) → T (is_turned (exp_so3 v)) → Fine3 v
unfolding exp_at norm3
exp_finite v t =
    let n = norm3 v in
    length_finite v
    (outcomes (λ a. T (is_turned a)) (lt n tiny) _ _
    (λ r k. lt_sqrt binary64 (dot3 v v) tiny r)
    (λ r k. sqrt_finite binary64 (dot3 v v) (mul_finite binary64 half n (sin_finite (mul binary64 half n) (by_sine v n (Angles.sin_of (mul binary64 half n)) (Angles.cos_of (mul binary64 half n)) k))).1) t)

-- ---- `normalized`: r is its answer at q
pub record Normed (tol : Float) (q r : Quat) : Type 0 where
  pub fine : T (finite_q q)
  pub length_fine : T (finite (norm_q q))
  pub near : T (not (lt tol (abs (sub binary64 (norm_q q) one))))
  pub is : scale_q q (div binary64 one (norm_q q)) ≡ r

second : (a b : Bool) → T (not (a || not b)) → T b
second true b t = absurd t
second false true t = tt
second false false t = t

module _ (tol : Float) (q r : Quat) where
  not_is : {X : Type 0} → None ≡ Some r → X
  not_is h = let z : ◌≡◌ {A = ℕ} 0 1 = cc in absurd (omega arith)

  same_is : (p : Quat) → Some p ≡ Some r → p ≡ r
  same_is p h = cc

  pub normalized_is : normalized tol q ≡ Some r → Normed tol q r
  unfolding normalized normal_by
  normalized_is h =
      let n = norm_q q in
      outcomes (λ a. a ≡ Some r) (finite_q q) _ _
      (λ f k. outcomes (λ a. a ≡ Some r) (eq n plus_zero || not (finite n)) _ _ (λ g l. not_is l)
      (λ g l. outcomes (λ a. a ≡ Some r) (lt tol (abs (sub binary64 n one))) _ _ (λ e m. not_is m)
      (λ e m. record { fine = f; length_fine = second (eq n plus_zero) (finite n) g; near = e; is = same_is (scale_q q (div binary64 one n)) m }) l) k)
      (λ f k. not_is k) h

-- its parts are at most 2 ^ 56 in size
pub normed_in : (tol : Float) (q r : Quat) → Below1 tol → FitsQ q → Normed tol q r → WithinQ 56 r
unfolding norm_q
normed_in tol q r B F N =
    let a = finite q.w in
    let b = finite q.x in
    let c = finite q.y in
    let d = finite q.z in
    let t = and_r a (b && (c && d)) N.fine in
    let v = unit_in tol q.w q.x q.y q.z B
    (record { fit = F.w; fine = and_l a (b && (c && d)) N.fine }) (record { fit = F.x; fine = and_l b (c && d) t })
    (record { fit = F.y; fine = and_l c d (and_r b (c && d) t) }) (record { fit = F.z; fine = and_r c d (and_r b (c && d) t) })
    N.length_fine N.near in
    rw (← N.is) (record { w = v.0; x = v.1; y = v.2; z = v.3 })

-- ---- the product: f64 holds its parts
pub product_fits : (a b : Quat) → FitsQ (quat_mul a b)
unfolding quat_mul
product_fits a b = record { w = sub-fits binary64 _ _; x = sub-fits binary64 _ _; y = add-fits binary64 _ _; z = add-fits binary64 _ _ }
