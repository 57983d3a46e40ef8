-- A weighted mean a * (1 - x) + b * x of finite values, rounded at each step, with a weight x from 0 to 1: it is finite, and hardly larger than the larger of the two. Assumes nothing.
use Rattle.std.specs.Prelude.{◌≡◌, refl, true, false, ℕ, suc, ◌+◌, ◌-◌, ◌*◌, ◌^◌, ◌≤◌, ◌<◌, pos, T, Float}
use Rattle.std.proofs.Common.{sym, ap, ◌∙◌, le_trans, le_of_eq, lt_of_lt_of_le, mul_comm, mul_assoc, mul-one, mul-pos, mul-le-mul_left, mul-le-mul_right, mul-lt-mul_of_pos_right, add-mul, le_of_mul-le-mul_right, arith, pow-add, pow_pos, pow_mono}
use Rattle.std.specs.Float.{nan, inf, fin, Format, binary32, binary64}
use Rattle.std.specs.Float.Ieee.{prec, emax, low, add, sub, mul, neg, le, fits}
use Rattle.std.specs.Float.Ieee.Fits.{mul-fits, sub-fits, neg-fits, two}
use Rattle.std.specs.Float.Ieee.Scale.{grid, finite}
use Rattle.float_laws.specs.Place.{mag, mid, place, mag_exact, mag_lt}
use Rattle.float_laws.specs.Numbers.{le_r}
use Rattle.float_laws.specs.Order.{Held, held, le_up, place_neg}
use Rattle.float_laws.specs.Signs.{place_plus}
use Rattle.float_laws.specs.Finite.{finite_number, finite_neg, between_finite}
use Rattle.float_laws.specs.Sizes.{place_high, place_low}
use Rattle.mean_laws.specs.Means.{Value}
use Rattle.mean_laws.specs.Grids.{either, twice, gr_digits, gr_close, gr_half, digits_step}
use Rattle.mean_laws.specs.Totals.{wl_is, total, weighed, nothing}
use Rattle.mean_laws.specs.Bounds.{close_whole, close_part, mean_size}
use Rattle.mean_laws.specs.Results.{mid_is, prec_pos, mul_mag, add_size, own_grid, own_digits, own_under}

-- ---- the format's numbers: 1 is 2 ^ (prec + below) units, and the overflow is 2 ^ (prec + above)
abbrev below : Format → ℕ
below binary32 = 125
below binary64 = 1021

abbrev above : Format → ℕ
above binary32 = 104
above binary64 = 971

low_is : (f : Format) → low f ≡ prec f + below f
low_is binary32 = refl
low_is binary64 = refl

top_is : (f : Format) → suc (emax f) ≡ prec f + above f
top_is binary32 = refl
top_is binary64 = refl

unit_is : (f : Format) → 2 ^ low f ≡ 2 ^ prec f * 2 ^ below f
unit_is f = ap (λ (z : ℕ). 2 ^ z) (low_is f) ∙ pow-add 2 (prec f) (below f)

mid_by : (f : Format) → mid f ≡ 2 ^ (prec f + above f) * 2 ^ low f
mid_by f = mid_is f ∙ ap (λ (z : ℕ). 2 ^ (low f + z)) (top_is f) ∙ pow-add 2 (low f) (prec f + above f) ∙ mul_comm (2 ^ low f) (2 ^ (prec f + above f))

-- ---- 1
abbrev pub unit : Float
unit = fin false 1 (pos 0)

pub unit_fits : (f : Format) → T (fits f unit)
unfolding fits
unit_fits binary32 = tt
unit_fits binary64 = tt

pub unit_mag : (f : Format) → mag f unit ≡ 2 ^ low f
unit_mag f = sym (mul-one (mag f unit)) ∙ sym (mag_exact f false (pos 0) 1 (unit_fits f)) ∙ one_times (2 ^ low f)
  where
    one_times : (z : ℕ) → 1 * 1 * z ≡ z
    one_times z = omega arith

pub unit_place : (f : Format) → place f unit ≡ mid f + 2 ^ low f
unit_place f = place_plus f unit tt ∙ ap (λ (z : ℕ). mid f + z) (unit_mag f)

-- ---- a weight
pub record Weight (f : Format) (x : Float) : Type 0 where
  pub fit : T (fits f x)
  pub fine : T (finite x)
  pub from0 : mid f ≤ place f x
  pub upto1 : place f x ≤ place f unit

pub weight_place : (f : Format) (x : Float) → Weight f x → place f x ≡ mid f + mag f x
unfolding place
weight_place f x w = go x w.fit w.fine w.from0
  where
    go : (x : Float) → T (fits f x) → T (finite x) → mid f ≤ place f x → place f x ≡ mid f + mag f x
    go nan g p h = absurd p
    go (inf s) g p h = absurd p
    go (fin true m e) g p h = omega (arith, mag_lt f true e m g)
    go (fin false m e) g p h = refl

pub weight_le : (f : Format) (x : Float) → Weight f x → mag f x ≤ 2 ^ low f
weight_le f x w = let a = w.upto1 in omega (arith, weight_place f x w, unit_place f)

-- ---- the largest value is 2 ^ above less than the overflow, in units of 1
largest : (f : Format) (x : Float) → Value f x → mag f x + 2 ^ low f * 2 ^ above f ≤ 2 ^ prec f * (2 ^ low f * 2 ^ above f)
largest f x v =
    let l = low f in
    let y = above f in
    let e : 2 ^ (l + y) ≡ 2 ^ l * 2 ^ y = pow-add 2 l y in
    let m : mid f ≡ 2 ^ prec f * 2 ^ (l + y) = mid_by f ∙ ap (λ (z : ℕ). z * 2 ^ l) (pow-add 2 (prec f) y) ∙ mul_assoc (2 ^ prec f) (2 ^ y) (2 ^ l) ∙ ap (λ (z : ℕ). 2 ^ prec f * z) (mul_comm (2 ^ y) (2 ^ l) ∙ sym e) in
    let h : 2 ^ (prec f - 1) < 2 ^ prec f = omega (arith, twice (prec f) (prec_pos f), pow_pos (prec f - 1)) in
    let s = digits_step (prec f) (mag f x) (l + y) (prec_pos f) (own_digits f x v.fine v.fit) (2 ^ prec f) (lt_of_lt_of_le (own_under f x v.fine v.fit) (le_of_eq m)) h in
    rw e at s

-- l taken out
out : (r u v l : ℕ) → 0 < l → 2 * (r * l) ≤ 2 * (u * l) + l * v → 2 * r ≤ 2 * u + v
out r u v l p h = le_of_mul-le-mul_right {k = l} (le_trans (le_of_eq (mul_assoc 2 r l)) (le_trans h (le_of_eq (sym (add-mul (2 * u) v l ∙ (λ i. mul_assoc 2 u l i + mul_comm v l i)))))) p

-- ---- the weight 1 - x
module _ (f : Format) (x : Float) (w : Weight f x) where
  abbrev R : ℕ
  R = grid f (2 ^ low f - mag f x) (2 ^ low f)

  -- it is 1 at most where x is 0
  rest_one : mag f x ≡ 0 → R ≤ 2 ^ low f
  rest_one z = le_of_eq (ap (λ (u : ℕ). grid f u (2 ^ low f)) {x = 2 ^ low f - mag f x} {y = mag f unit} (omega (arith, unit_mag f)) ∙ own_grid f unit tt (unit_fits f) ∙ unit_mag f)

  -- both weights are at most 1 and half of the last digit below 1
  rest_half : 2 * (R + mag f x) ≤ 2 * 2 ^ low f + 2 ^ below f
  rest_half = either (mag f x) 0 (λ z. none (omega arith)) some
    where
      none : mag f x ≡ 0 → 2 * (R + mag f x) ≤ 2 * 2 ^ low f + 2 ^ below f
      none z = let a = rest_one z in omega arith

      some : 0 < mag f x → 2 * (R + mag f x) ≤ 2 * 2 ^ low f + 2 ^ below f
      some z =
          let u = 2 ^ low f - mag f x in
          let l = weight_le f x w in
          let b : u < 2 ^ (prec f + below f) = lt_of_lt_of_le {m = 2 ^ low f} (omega arith) (le_of_eq (ap (λ (z : ℕ). 2 ^ z) (low_is f))) in
          let h = out R u (2 ^ below f) (2 ^ low f) (pow_pos (low f)) (gr_half (prec f) (u * 2 ^ low f) (2 ^ low f) (prec_pos f) (pow_pos (low f)) (below f) (mul-lt-mul_of_pos_right b (pow_pos (low f)))) in
          omega arith

  -- far below the overflow
  rest_under : R < mid f
  rest_under =
      let four : 2 ^ 2 * 2 ^ low f ≤ 2 ^ (prec f + above f) * 2 ^ low f = mul-le-mul_right (2 ^ low f) (pow_mono (wide (prec f) (above f) (two f))) in
      let n : 2 ^ below f ≤ 2 ^ low f = pow_mono (le_trans (least (prec f) (below f)) (le_of_eq (sym (low_is f)))) in
      omega (arith, rest_half, mid_by f, pow_pos (low f))
    where
      wide : (p y : ℕ) → 2 ≤ p → 2 ≤ p + y
      wide p y h = omega arith

      least : (p t : ℕ) → t ≤ p + t
      least p t = omega arith

  -- 1 - x, rounded, is finite, and R units at most
  rest : T (finite (sub f unit x)) × (mag f (sub f unit x) ≤ R)
  unfolding sub
  rest =
      let H : Held f x = held w.fit (finite_number x w.fine) in
      let n = place_neg f x H in
      let l = weight_le f x w in
      let a = weight_place f x w in
      let b = unit_place f in
      add_size f unit (neg x) (2 ^ low f - mag f x) tt (finite_neg x w.fine) (unit_fits f) (neg-fits f x w.fit) (omega arith) (omega arith) rest_under

-- ---- the mean
pub record Mean (f : Format) (a b w : Float) : Type 0 where
  pub fine : T (finite w)
  pub size : (M : ℕ) → mag f a ≤ M → mag f b ≤ M → 2 ^ prec f * mag f w ≤ 2 ^ prec f * M + 5 * M + 2 ^ prec f + 1

module _ (f : Format) (a b x : Float) (va : Value f a) (vb : Value f b) (w : Weight f x) where
  abbrev p : ℕ
  p = prec f

  abbrev l : ℕ
  l = 2 ^ low f

  abbrev g : Float
  g = sub f unit x

  abbrev A : ℕ
  A = mag f a

  abbrev B : ℕ
  B = mag f b

  abbrev G : ℕ
  G = mag f (sub f unit x)

  abbrev E : ℕ
  E = mag f x

  -- the two products, and their sum, in units
  abbrev X1 : ℕ
  X1 = grid f (mag f a * mag f (sub f unit x)) (2 ^ low f * 2 ^ low f)

  abbrev X2 : ℕ
  X2 = grid f (mag f b * mag f x) (2 ^ low f * 2 ^ low f)

  abbrev S : ℕ
  S = X1 + X2

  abbrev Y : ℕ
  Y = grid f S (2 ^ low f)

  g_le : mag f (sub f unit x) ≤ grid f (2 ^ low f - mag f x) (2 ^ low f)
  g_le = (rest f x w).1

  g_fine : T (finite (sub f unit x))
  g_fine = (rest f x w).0

  l_pos : 0 < l
  l_pos = pow_pos (low f)

  ll_pos : 0 < l * l
  ll_pos = mul-pos l_pos l_pos

  spare : 2 * S + 2 ^ (p + above f) * 2 ^ below f < 2 * (2 ^ (p + above f) * l)
  spare =
      total p (below f) (above f) l (prec_pos f) (unit_is f) E G X1 X2 (own_digits f x w.fine w.fit) (own_digits f g g_fine (sub-fits f unit x))
      (gr_digits p (A * G * l) (l * l) (prec_pos f) ll_pos) (gr_digits p (B * E * l) (l * l) (prec_pos f) ll_pos)
      (weight_le f x w) (omega (arith, rest_half f x w, g_le)) (λ z. le_trans g_le (rest_one f x w z))
      (weighed p (above f) l A G X1 l_pos (gr_close p (A * G * l) (l * l) (prec_pos f) ll_pos) (largest f a va)) (nothing p (above f) l A G X1 l_pos (gr_close p (A * G * l) (l * l) (prec_pos f) ll_pos))
      (weighed p (above f) l B E X2 l_pos (gr_close p (B * E * l) (l * l) (prec_pos f) ll_pos) (largest f b vb)) (nothing p (above f) l B E X2 l_pos (gr_close p (B * E * l) (l * l) (prec_pos f) ll_pos))

  s_under : S < mid f
  s_under = omega (arith, spare, mid_by f)

  -- the rounded sum stays below the overflow
  y_under : Y < mid f
  y_under =
      let W = 2 ^ (p + above f) in
      let N = 2 ^ below f in
      let j = p + above f + below f in
      let e : 2 ^ j ≡ W * N = pow-add 2 (p + above f) (below f) in
      let m : mid f ≡ 2 ^ (p + j) = mid_by f ∙ wl_is p (below f) (above f) l (prec_pos f) (unit_is f) ∙ ap (λ (z : ℕ). 2 ^ p * z) (sym e) ∙ sym (pow-add 2 p j) in
      let h = gr_half p (S * l) l (prec_pos f) l_pos j (mul-lt-mul_of_pos_right (lt_of_lt_of_le s_under (le_of_eq m)) l_pos) in
      let o = out Y S (2 ^ j) l l_pos h in
      omega (arith, spare, mid_by f)

  m1 : T (finite (mul f a g)) × (mag f (mul f a g) ≡ X1)
  m1 = mul_mag f a g va.fine g_fine va.fit (sub-fits f unit x) (omega (arith, s_under))

  m2 : T (finite (mul f b x)) × (mag f (mul f b x) ≡ X2)
  m2 = mul_mag f b x vb.fine w.fine vb.fit w.fit (omega (arith, s_under))

  sum : T (finite (add f (mul f a g) (mul f b x))) × (mag f (add f (mul f a g) (mul f b x)) ≤ Y)
  sum =
      let uh = place_high f (mul f a g) m1.0 in
      let ul = place_low f (mul f a g) m1.0 in
      let vh = place_high f (mul f b x) m2.0 in
      let vl = place_low f (mul f b x) m2.0 in
      let e = m1.1 in
      let d = m2.1 in
      add_size f (mul f a g) (mul f b x) S m1.0 m2.0 (mul-fits f a g) (mul-fits f b x) (omega arith) (omega arith) y_under

  three : 3 ≤ 2 ^ p
  three = le_trans (let z : 3 ≤ 2 ^ 2 = omega arith in z) (pow_mono (two f))

  pub mean_is : Mean f a b (add f (mul f a (sub f unit x)) (mul f b x))
  mean_is = record {
    fine = sum.0;
    size = λ M am bm.
        let k : 2 ^ p * G ≤ 2 ^ p * (l - E) + (l - E) = le_trans (mul-le-mul_left (2 ^ p) g_le) (close_whole p (l - E) l (grid f (l - E) l) l_pos (gr_close p ((l - E) * l) l (prec_pos f) l_pos)) in
        let z = mean_size (2 ^ p) l M E G A B X1 X2 S Y three l_pos am bm (weight_le f x w) k
        (close_part p (A * G) l X1 l_pos (gr_close p (A * G * l) (l * l) (prec_pos f) ll_pos))
        (close_part p (B * E) l X2 l_pos (gr_close p (B * E * l) (l * l) (prec_pos f) ll_pos))
        refl (close_whole p S l Y l_pos (gr_close p (S * l) l (prec_pos f) l_pos)) in
        le_trans (mul-le-mul_left (2 ^ p) sum.1) z;
  }

-- ---- a weight by comparisons
abbrev pub nil : Float
nil = fin false 0 (pos 0)

pub nil_fits : (f : Format) → T (fits f nil)
unfolding fits
nil_fits f = tt

pub nil_place : (f : Format) → place f nil ≡ mid f
nil_place f = place_plus f nil tt ∙ ap (λ (z : ℕ). mid f + z) none ∙ omega arith
  where
    none : mag f nil ≡ 0
    none = sym (mul-one (mag f nil)) ∙ sym (mag_exact f false (pos 0) 0 (nil_fits f)) ∙ zero_times (2 ^ low f)
      where
        zero_times : (z : ℕ) → 0 * 1 * z ≡ 0
        zero_times z = omega arith

pub weight_by : (f : Format) (x : Float) → T (fits f x) → T (le nil x) → T (le x unit) → Weight f x
weight_by f x g p q =
    let H : Held f x = held g (le_r nil x p) in record {
      fit = g;
      fine = between_finite x nil unit tt tt p q;
      from0 = le_trans (le_of_eq (sym (nil_place f))) (le_up f nil x (held (nil_fits f) tt) H p);
      upto1 = le_up f x unit H (held (unit_fits f) tt) q;
    }
