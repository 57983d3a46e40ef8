-- The turn that is left between two attitudes of at most 2 ^ 56: its logarithm is never refused, and gives three finite numbers. So the end's computed
-- lengths are no NaN, and "not above" is "at most". Assumes nothing.
use Rattle.std.specs.Prelude.{◌≡◌, Bool, true, false, not, cond, ◌&&◌, List, [], ◌∷◌, ℕ, zero, suc, ◌+◌, ◌-◌, ◌*◌, ◌/◌, ◌^◌, ◌<◌, ◌≤◌, T, Float, Option, Some, None}
use Rattle.std.proofs.Math.Path.{refl}
use Rattle.std.proofs.Common.{sym, ◌∙◌, le_trans, le_of_eq, le_refl, lt_of_not-le, mul-le-mul, mul-le-mul_left, mul-le-mul_right, mul-div_cancel, div-le_self, add-le-add, suc-mul, arith, lit≤, pow_pos}
use Rattle.std.proofs.Math.Dec.{leb→le}
use Rattle.std.specs.Float.{nan, inf, fin}
use Rattle.std.specs.Float.Ieee.{binary64, low, up, down, round, mul, div, lt, le, fits, of_bits}
use Rattle.std.specs.Float.Ieee.Fits.{and_i, add-fits}
use Rattle.std.specs.Float.Ieee.Nearest.{div_mono}
use Rattle.std.specs.Float.Ieee.Scale.{finite}
use Rattle.common.specs.Floats.{one}
use Rattle.common.specs.Floats as Floats
use Rattle.wide.specs.IsqrtLaws.{isqrt_root}
use Rattle.float.specs.Ops.{clamp}
use Rattle.float.specs.SqrtLaws.{sqrt_fits}
use Rattle.float_laws.specs.Place.{mag, mid, place}
use Rattle.float_laws.specs.Order.{Held, held, lt_up, nlt_up, up_le, not_above}
use Rattle.float_laws.specs.Clamp.{clamp_held, clamp_place}
use Rattle.float_laws.specs.Finite.{finite_number}
use Rattle.float_laws.specs.Signs.{plus, plus_number, place_plus, round_plus, square_plus, add_plus, sqrt_plus}
use Rattle.float_laws.specs.Sizes.{Within, Beyond, in_held, add_in, sub_in, mul_in, div_in, neg_in, round_in}
use Rattle.float_laws.specs.Unit.{finite_sqrt}
use Rattle.angles.specs.Angles.{size_of}
use Rattle.angles.specs.Arcs as Arcs
use Rattle.geom.specs.Vec.{dot3, two, minus_one}
use Rattle.geom.specs.Vec as Vec
use Rattle.geom.specs.Quats.{quat_mul, negate_q, conj, norm3, tiny, part, upright, log_by, log_at, log_up, log_so3}
use Rattle.geom.specs.declared.Quat.{Quat}
use Rattle.common.specs.Lists.{at}
use Rattle.run_laws.specs.Values.{Fine3, WithinQ}

-- ---- lengths of three finite numbers
module _ (v : List Float) (p : Fine3 v) where
  dot_plus : T (plus (dot3 v v))
  dot_plus = add_plus binary64 _ _ (add_plus binary64 _ _ (square_plus binary64 (at v 0) (finite_number (at v 0) p.0)) (square_plus binary64 (at v 1) (finite_number (at v 1) p.1))) (square_plus binary64 (at v 2) (finite_number (at v 2) p.2))

  length_plus : T (plus (norm3 v))
  unfolding norm3
  length_plus = sqrt_plus binary64 (dot3 v v) dot_plus

  -- the computed length is a number, an infinity perhaps
  pub length_held : Held binary64 (norm3 v)
  length_held = held (unfold norm3 in sqrt_fits binary64 (dot3 v v) (add-fits binary64 _ _)) (plus_number (norm3 v) length_plus)

  -- a length that is not above t is at most t
  pub length_test : (t : Float) → Held binary64 t → T (not (lt t (norm3 v))) → T (le (norm3 v) t)
  length_test t H h = not_above binary64 (norm3 v) t length_held H h

-- ---- products of attitudes
product_in : (a b : Quat) → WithinQ 56 a → WithinQ 56 b → WithinQ 115 (quat_mul a b)
unfolding quat_mul
product_in a b p q = record {
  w = sub_in (sub_in (sub_in (mul_in p.w q.w tt) (mul_in p.x q.x tt) tt) (mul_in p.y q.y tt) tt) (mul_in p.z q.z tt) tt;
  x = sub_in (add_in (add_in (mul_in p.w q.x tt) (mul_in p.x q.w tt) tt) (mul_in p.y q.z tt) tt) (mul_in p.z q.y tt) tt;
  y = add_in (add_in (sub_in (mul_in p.w q.y tt) (mul_in p.x q.z tt) tt) (mul_in p.y q.w tt) tt) (mul_in p.z q.x tt) tt;
  z = add_in (sub_in (add_in (mul_in p.w q.z tt) (mul_in p.x q.y tt) tt) (mul_in p.y q.x tt) tt) (mul_in p.z q.w tt) tt;
}

conj_in : {k : ℕ} (q : Quat) → WithinQ k q → WithinQ k (conj q)
conj_in q p = record { w = p.w; x = neg_in p.x; y = neg_in p.y; z = neg_in p.z }

-- ---- literals
minus_in : Within binary64 0 minus_one
minus_in = record { fit = unfold fits of_bits in tt; fine = unfold of_bits in tt; small = unfold mag of_bits in leb→le (2 ^ 1074) (2 ^ 1074) tt }

two_in : Within binary64 1 two
two_in = record { fit = unfold fits of_bits in tt; fine = unfold of_bits in tt; small = unfold mag of_bits in leb→le (2 ^ 1075) (2 ^ 1075) tt }

zero_held : Held binary64 Floats.plus_zero
unfolding fits of_bits
zero_held = held tt tt

one_held : Held binary64 one
unfolding fits of_bits
one_held = held tt tt

zero_place : place binary64 Floats.plus_zero ≡ mid binary64
zero_place = place_plus binary64 Floats.plus_zero (unfold of_bits in tt) ∙ more none
  where
    none : mag binary64 Floats.plus_zero ≡ 0
    none = unfold mag of_bits in refl

    more : mag binary64 Floats.plus_zero ≡ 0 → mid binary64 + mag binary64 Floats.plus_zero ≡ mid binary64
    more e = omega arith

-- ---- the arc cosine is at most 2 ^ 7
div_le : (a b d : ℕ) → 0 < d → a ≤ b * d → a / d ≤ b
div_le a b d p h = le_trans (div_mono a d (b * d) d p p (mul-le-mul_right d h)) (le_of_eq (mul-div_cancel b p))

next_le : (h n p : ℕ) → h ≤ 2 ^ 60 → Arcs.arc_next h n p ≤ p
next_le h n p l =
    let a : p * h / 2 ^ 60 ≤ p = div_le (p * h) p (2 ^ 60) (pow_pos 60) (mul-le-mul_left p l) in
    div_le (p * h / 2 ^ 60 * (2 * n + 1)) p (2 * n + 2) (omega arith) (mul-le-mul a (omega arith))

term_le : (h s : ℕ) → h ≤ 2 ^ 60 → (n : ℕ) → Arcs.arc_term h s n ≤ s
unfolding Arcs.arc_term
term_le h s l zero = le_refl s
term_le h s l (suc n) = le_trans (next_le h n (Arcs.arc_term h s n) l) (term_le h s l n)

sum_le : (h s : ℕ) → h ≤ 2 ^ 60 → (n : ℕ) → Arcs.arc_sum h s n ≤ n * s
unfolding Arcs.arc_sum
sum_le h s l zero = omega arith
sum_le h s l (suc n) = le_trans (add-le-add (sum_le h s l n) (le_trans (div-le_self (Arcs.arc_term h s n) (2 * n + 1)) (term_le h s l n))) (le_of_eq (sym (suc-mul n s)))

root_under : (d : ℕ) → d ≤ 2 ^ 60 → Arcs.root_of d < 2 ^ 60
root_under d l = lt_of_not-le (λ (k : 2 ^ 60 ≤ Arcs.root_of d).
    let a : 2 ^ 60 * 2 ^ 60 ≤ Arcs.root_of d * Arcs.root_of d = mul-le-mul k k in
    let b : Arcs.root_of d * Arcs.root_of d ≤ d * 2 ^ 59 = (isqrt_root (d * 2 ^ 59)).low in
    let c : d * 2 ^ 59 ≤ 2 ^ 60 * 2 ^ 59 = mul-le-mul_right (2 ^ 59) l in
    omega arith)

arc_top : (d : ℕ) → d ≤ 2 ^ 60 → 2 * Arcs.arc_sum (d / 2) (Arcs.root_of d) 60 ≤ 2 ^ 7 * 2 ^ 60
arc_top d l = go (Arcs.root_of d) (Arcs.arc_sum (d / 2) (Arcs.root_of d) 60) (root_under d l) (sum_le (d / 2) (Arcs.root_of d) (le_trans (div-le_self d 2) l) 60)
  where
    go : (s a : ℕ) → s < 2 ^ 60 → a ≤ 60 * s → 2 * a ≤ 2 ^ 7 * 2 ^ 60
    go s a h k = omega arith

-- an angle, and a bound of it
record AngleIn (k : ℕ) (a : Option Float) : Type 0 where
  value : Float
  is : a ≡ Some value
  size : Within binary64 k value

acos_in : (w : Float) → T (le Arcs.none w) → T (le w one) → AngleIn 7 (Arcs.acos_of w)
unfolding Arcs.acos_of Arcs.in_unit Arcs.arc_of
acos_in w p q = go (le Arcs.none w && le w one) (and_i (le Arcs.none w) (le w one) p q)
  where
    d : ℕ
    d = Arcs.short_of w

    a : Float
    a = round binary64 false (2 * Arcs.arc_sum (d / 2) (Arcs.root_of d) 60) (2 ^ 60)

    short : (m n : ℕ) → m - n ≤ m
    short m n = omega arith

    go : (b : Bool) → T b → AngleIn 7 (cond b (Some a) None)
    go true t = record { value = a; is = refl; size = round_in binary64 false _ (2 ^ 60) 7 (pow_pos 60) (lit≤ tt) (arc_top d (short (2 ^ 60) (size_of w))) }
    go false t = absurd t

-- ---- the scalar part of an upright quaternion, clamped
order : T (lt minus_one Floats.plus_zero) × T (lt Floats.plus_zero one)
unfolding lt of_bits
order = (tt, tt)

clamp_unit : (w : Float) → Held binary64 w → mid binary64 ≤ place binary64 w → T (le Floats.plus_zero (clamp minus_one one w)) × T (le (clamp minus_one one w) one)
clamp_unit w W h =
    let C = clamp_held binary64 minus_one one (in_held minus_in) one_held w W in
    let a = lt_up binary64 minus_one Floats.plus_zero (in_held minus_in) zero_held order.0 in
    let b = lt_up binary64 Floats.plus_zero one zero_held one_held order.1 in
    let d = clamp_place binary64 minus_one one (in_held minus_in) one_held w W (omega arith) in
    let z = zero_place in
    (up_le binary64 Floats.plus_zero (clamp minus_one one w) zero_held C (omega arith), up_le binary64 (clamp minus_one one w) one C one_held (omega arith))

flip_plus : (w : Float) → T (finite w) → place binary64 w < mid binary64 → T (plus (mul binary64 w minus_one))
unfolding mul of_bits
flip_plus nan p h = absurd p
flip_plus (inf s) p h = absurd p
flip_plus (fin false m e) p h = absurd (no (place_plus binary64 (fin false m e) tt))
  where
    no : place binary64 (fin false m e) ≡ mid binary64 + mag binary64 (fin false m e) → ⊥
    no z = omega arith
flip_plus (fin true m e) p h = round_plus binary64 (m * up e * (1 * 1)) (down e * 1)

-- upright: the sizes stay, and the scalar part is not below zero
record Up (k : ℕ) (q : Quat) : Type 0 where
  sizes : WithinQ k q
  over : mid binary64 ≤ place binary64 q.w

upright_in : (q : Quat) → WithinQ 115 q → Up 115 (upright q)
upright_in q p = go (lt q.w Floats.plus_zero) (λ h. h) (λ h. h)
  where
    W : Held binary64 q.w
    W = in_held p.w

    go : (b : Bool) → (T b → T (lt q.w Floats.plus_zero)) → (T (not b) → T (not (lt q.w Floats.plus_zero))) → Up 115 (cond b (negate_q q) q)
    go true a b =
        let o = lt_up binary64 q.w Floats.plus_zero W zero_held (a tt) in
        let z = zero_place in
        let s = place_plus binary64 (mul binary64 q.w minus_one) (flip_plus q.w p.w.fine (omega arith)) in
        record { sizes = record { w = mul_in p.w minus_in tt; x = mul_in p.x minus_in tt; y = mul_in p.y minus_in tt; z = mul_in p.z minus_in tt }; over = omega arith }
    go false a b = let o = nlt_up binary64 q.w Floats.plus_zero W zero_held (b tt) in let z = zero_place in record { sizes = p; over = omega arith }

-- ---- the logarithm
-- a rotation vector of three finite numbers
pub record TurnIn (t : Option (Float × Float × Float)) : Type 0 where
  pub x : Float
  pub y : Float
  pub z : Float
  pub is : t ≡ Some (x, y, z)
  pub fine : Fine3 (x ∷ y ∷ z ∷ [])

tiny_beyond : (n : Float) → T (fits binary64 n) → T (finite n) → T (plus n) → T (not (lt n tiny)) → Beyond binary64 54 n
tiny_beyond n g p q h = record { fit = g; fine = p; large = le_trans least (mul-le-mul_right (2 ^ 54) (small (nlt_up binary64 n tiny (held g (finite_number n p)) tiny_held h) (place_plus binary64 tiny tiny_plus) (place_plus binary64 n q))) }
  where
    tiny_held : Held binary64 tiny
    tiny_held = unfold fits of_bits in held tt tt

    tiny_plus : T (plus tiny)
    tiny_plus = unfold of_bits in tt

    least : 2 ^ low binary64 ≤ mag binary64 tiny * 2 ^ 54
    least = unfold mag of_bits in leb→le (2 ^ low binary64) (mag binary64 tiny * 2 ^ 54) tt

    small : place binary64 tiny ≤ place binary64 n → place binary64 tiny ≡ mid binary64 + mag binary64 tiny → place binary64 n ≡ mid binary64 + mag binary64 n → mag binary64 tiny ≤ mag binary64 n
    small a b c = omega arith

log_up_law : (q : Quat) → Up 115 q → TurnIn (log_up q)
unfolding log_at
log_up_law q U = go (lt n tiny) (λ h. h)
  where
    v : List Float
    v = part q

    n : Float
    n = norm3 v

    X : Within binary64 115 q.x
    X = U.sizes.x

    Y : Within binary64 115 q.y
    Y = U.sizes.y

    Z : Within binary64 115 q.z
    Z = U.sizes.z

    F : Fine3 v
    F = (X.fine, Y.fine, Z.fine)

    dot_in : Within binary64 232 (dot3 v v)
    dot_in = add_in (add_in (mul_in X X tt) (mul_in Y Y tt) tt) (mul_in Z Z tt) tt

    n_finite : T (finite n)
    n_finite = unfold norm3 in finite_sqrt (dot3 v v) dot_in.fit dot_in.fine (dot_plus v F)

    by : (a : Option Float) → AngleIn 7 a → T (not (lt n tiny)) → TurnIn (log_by q n a)
    by a A h =
        let s : Within binary64 62 (div binary64 (mul binary64 two A.value) n) = div_in (mul_in {j = 1} {k = 7} two_in A.size tt) (tiny_beyond n (length_held v F).fit n_finite (length_plus v F) h) tt in
        rw A.is (record { x = _; y = _; z = _; is = refl; fine = ((mul_in {j = 115} {k = 62} X s tt).fine, (mul_in {j = 115} {k = 62} Y s tt).fine, (mul_in {j = 115} {k = 62} Z s tt).fine) })

    go : (b : Bool) → (T (not b) → T (not (lt n tiny))) → TurnIn (cond b (Some (mul binary64 two q.x, mul binary64 two q.y, mul binary64 two q.z)) (log_by q n (Arcs.acos_of (clamp minus_one one q.w))))
    go true h = record { x = _; y = _; z = _; is = refl; fine = ((mul_in {j = 1} {k = 115} two_in X tt).fine, (mul_in {j = 1} {k = 115} two_in Y tt).fine, (mul_in {j = 1} {k = 115} two_in Z tt).fine) }
    go false h = let c = clamp_unit q.w (in_held U.sizes.w) U.over in by (Arcs.acos_of (clamp minus_one one q.w)) (acos_in (clamp minus_one one q.w) c.0 c.1) (h tt)

-- THE TURN THAT IS LEFT: never refused, three finite numbers
pub error_in_law : (q qf : Quat) → WithinQ 56 q → WithinQ 56 qf → TurnIn (log_so3 (quat_mul (conj q) qf))
unfolding log_so3
error_in_law q qf p r = log_up_law (upright (quat_mul (conj q) qf)) (upright_in (quat_mul (conj q) qf) (product_in (conj q) qf (conj_in q p) r))
