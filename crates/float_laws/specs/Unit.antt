-- Lengths near 1: where the computed length n of four numbers differs from 1 by at most a tolerance below 1, n lies between 2 ^ -54 and 4, and each of the four times 1 / n is at most
-- 2 ^ 56 in size. (No better bound holds in general: the tolerance may be just below 1.) Assumes nothing.
use Rattle.std.specs.Prelude.{◌≡◌, ℕ, zero, suc, ◌+◌, ◌*◌, ◌^◌, ◌<◌, ◌≤◌, Bool, true, false, not, ℤ, pos, negsuc, T, leb}
use Rattle.std.proofs.Math.Path.{refl, ap}
use Rattle.std.proofs.Common.{sym, le_trans, le_of_eq, le_of_lt, lt_of_not-le, le_of_mul-le-mul_right, mul_assoc, mul_left_comm, mul_right_comm, mul-one, zero-mul, zero-lt-suc, mul-pos, mul-le-mul, mul-le-mul_right, arith, lt→ltb, T_not, pow_pos}
use Rattle.std.proofs.Math.Nat.{zero-div}
use Rattle.std.proofs.Math.Dec.{leb→le, nleb→lt, not_T, lit<}
use lib.Ieee.{Float, nan, inf, fin, Format, binary64, low, up, down, round, units, sum, size, add, sub, mul, div, neg, lt, le, fits, of_bits}
use Rattle.std.specs.Float.Ieee.Fits.{down_pos, add-fits, mul-fits, sub-fits, neg-fits}
use Rattle.std.specs.Float.Ieee.Order.{round_mono}
use Rattle.std.specs.Float.Ieee.Positive.{positive}
use Rattle.std.specs.Float.Ieee.Scale.{finite}
use Rattle.common.specs.Floats.{one}
use Rattle.wide.specs.Isqrt.{isqrt}
use Rattle.float.specs.Ops.{abs}
use Rattle.float.specs.Sqrt.{sqrt, root_units}
use Rattle.float.specs.SqrtLaws.{sqrt_fits, sqrt_mono, sqrt_value, grid_root, square_units}
use Rattle.float_laws.specs.Numbers.{lt_l}
use Rattle.float_laws.specs.Place.{mag, mid, place, mag_exact}
use Rattle.float_laws.specs.Order.{Held, held, lt_up, nlt_up, up_le, le_up, place_neg, place_abs, abs_held}
use Rattle.float_laws.specs.Signs.{plus, place_plus, square_plus, add_plus, sqrt_plus}
use Rattle.float_laws.specs.Finite.{add_finite, sqrt_finite, finite_number, sub_number, finite_neg}
use Rattle.float_laws.specs.Rounding.{add_above, add_mono}
use Rattle.float_laws.specs.Limits.{finite_under}
use Rattle.float_laws.specs.Sizes.{Within, Beyond, mul_in, div_in}

abbrev f64 : Format
f64 = binary64

-- a tolerance below 1
pub record Below1 (tol : Float) : Type 0 where
  pub fit : T (fits f64 tol)
  pub less : T (lt tol one)

-- ---- a sum of values with the sign + is no smaller than either
module _ (f : Format) (x y : Float) (p : T (finite x)) (q : T (finite y)) (g : T (fits f x)) (h : T (fits f y)) (a : T (plus x)) (b : T (plus y)) where
  pub sum_l : place f x ≤ place f (add f x y)
  sum_l = add_above f x y x p q g h (held g (finite_number x p)) (finite_under f x g p) (omega (arith, place_plus f y b))

  pub sum_r : place f y ≤ place f (add f x y)
  sum_r = add_above f x y y p q g h (held h (finite_number y q)) (finite_under f y h q) (omega (arith, place_plus f x a))

-- ---- the root of a finite value with the sign + is finite
has_finite : (y : Float) (s : Bool) (a c : ℕ) → lib.Ieee.Exact.HasValue y s a c → T (finite y)
has_finite nan s a c h = absurd h
has_finite (inf t) s a c h = absurd h
has_finite (fin t m e) s a c h = tt

pub finite_sqrt : (x : Float) → T (fits f64 x) → T (finite x) → T (plus x) → T (finite (sqrt f64 x))
unfolding sqrt
finite_sqrt nan g p q = absurd p
finite_sqrt (inf s) g p q = absurd p
finite_sqrt (fin true m e) g p q = absurd q
finite_sqrt (fin false zero e) g p q = tt
finite_sqrt (fin false (suc m) e) g p q = let x = fin false (suc m) e in has_finite (sqrt f64 x) false (grid_root f64 (square_units x)) (2 ^ 1074) (sqrt_value x g (lt→ltb 0 (suc m) (zero-lt-suc m)))

-- ---- a value whose square is below 16 is at most 4
abbrev sixteen : Float
sixteen = fin false 1 (pos 4)

sixteen_held : Held f64 sixteen
sixteen_held = held (unfold fits in tt) tt

sixteen_is : round f64 false 16 1 ≡ sixteen
unfolding round units
sixteen_is = refl

square_is : (s : Bool) (m : ℕ) (e : ℤ) → mul f64 (fin s m e) (fin s m e) ≡ round f64 false (m * up e * (m * up e)) (down e * down e)
unfolding mul
square_is true m e = refl
square_is false m e = refl

small_is : (s : Bool) (m : ℕ) (e : ℤ) → T (fits f64 (fin s m e)) → m * up e ≤ 4 * down e → Within f64 2 (fin s m e)
small_is s m e g h = record {
  fit = g;
  fine = tt;
  small =
      le_of_mul-le-mul_right {k = down e}
      (le_trans (le_of_eq (sym (mag_exact f64 s e m g)))
      (le_trans (mul-le-mul_right (2 ^ low f64) h)
      (le_of_eq (mul_right_comm 4 (down e) (2 ^ low f64)))))
      (down_pos e);
}

square_in : (x : Float) → T (fits f64 x) → T (finite x) → place f64 (mul f64 x x) < place f64 sixteen → Within f64 2 x
square_in nan g p h = absurd p
square_in (inf s) g p h = absurd p
square_in (fin s m e) g p h = go (leb (m * up e) (4 * down e)) (leb→le (m * up e) (4 * down e)) (nleb→lt (m * up e) (4 * down e))
  where
    x : Float
    x = fin s m e

    four : (d : ℕ) → 16 * (d * d) ≡ 4 * d * (4 * d)
    four d = sym (simp (mul_assoc, mul_left_comm) (omega arith))

    big : 4 * down e < m * up e → T (le sixteen (mul f64 x x))
    big k = rw (← sixteen_is, square_is s m e)
        (round_mono f64 16 1 (m * up e * (m * up e)) (down e * down e) (pow_pos 0) (mul-pos (down_pos e) (down_pos e))
        (le_trans (le_of_eq (four (down e))) (le_trans (mul-le-mul (le_of_lt k) (le_of_lt k)) (le_of_eq (sym (mul-one (m * up e * (m * up e))))))))

    clash : T (le sixteen (mul f64 x x)) → ⊥
    clash k = let o = le_up f64 sixteen (mul f64 x x) sixteen_held (held (mul-fits f64 x x) (Rattle.float_laws.specs.Numbers.le_r sixteen (mul f64 x x) k)) k in omega arith

    go : (b : Bool) → (T b → m * up e ≤ 4 * down e) → (T (not b) → 4 * down e < m * up e) → Within f64 2 x
    go true a b = small_is s m e g (a tt)
    go false a b = absurd (clash (big (b tt)))

-- ---- a length n within the tolerance of 1
abbrev four : Float
four = fin false 1 (pos 2)

abbrev least : Float
least = fin false 1 (negsuc 53)

one_held : Held f64 one
unfolding fits of_bits
one_held = held tt tt

one_finite : T (finite one)
unfolding of_bits
one_finite = tt

-- 4 - 1 is 3, 2 ^ -54 - 1 is rounded to -1
four_less : T (lt one (sub f64 four one))
unfolding sub neg add sum round units of_bits lt
four_less = tt

least_less : sub f64 least one ≡ neg one
unfolding sub neg add sum round units of_bits
least_less = refl

module _ (tol n : Float) (B : Below1 tol) (g : T (fits f64 n)) (p : T (finite n)) (near : T (not (lt tol (abs (sub f64 n one))))) where
  N : Held f64 n
  N = held g (finite_number n p)

  less_held : (x : Float) → T (finite x) → Held f64 (sub f64 x one)
  less_held x q = held (sub-fits f64 x one) (sub_number f64 x one (finite_number x q) one_finite)

  near_up : place f64 (abs (sub f64 n one)) < place f64 one
  near_up =
      let T0 = held B.fit (lt_l tol one B.less) in
      omega (arith, lt_up f64 tol one T0 one_held B.less, nlt_up f64 tol (abs (sub f64 n one)) T0 (abs_held (less_held n p)) near)

  minus_grows : (x y : Float) → T (fits f64 x) → T (fits f64 y) → T (finite x) → T (finite y) → T (le x y) → place f64 (sub f64 x one) ≤ place f64 (sub f64 y one)
  minus_grows x y a b c d h = le_up f64 (sub f64 x one) (sub f64 y one) (less_held x c) (less_held y d)
      (unfold sub in add_mono f64 x y (neg one) c d (finite_neg one one_finite) a b (neg-fits f64 one one_held.fit) h)

  length_under : T (not (le four n))
  length_under = not_T (le four n) (λ h.
      let m = minus_grows four n (unfold fits in tt) g tt p h in
      let l = lt_up f64 one (sub f64 four one) one_held (less_held four tt) four_less in
      omega (arith, near_up, place_abs f64 (sub f64 n one) (less_held n p)))

  length_over : place f64 least < place f64 n
  length_over = lt_of_not-le (λ (k : place f64 n ≤ place f64 least).
      let m = minus_grows n least g (unfold fits in tt) p tt (up_le f64 n least N (held (unfold fits in tt) tt) k) in
      let e : place f64 (sub f64 least one) ≡ place f64 (neg one) = ap (place f64) least_less in
      omega (arith, near_up, place_abs f64 (sub f64 n one) (less_held n p), place_neg f64 one one_held))

  -- it is above 2 ^ -54
  pub length_beyond : T (plus n) → Beyond f64 54 n
  length_beyond q = record {
    fit = g;
    fine = p;
    large =
        le_trans (le_of_eq (sym least_mag)) (mul-le-mul_right (2 ^ 54) (below (place_plus f64 n q) (place_plus f64 least tt)));
  }
    where
      least_mag : mag f64 least * 2 ^ 54 ≡ 2 ^ low f64
      least_mag = unfold mag in refl

      below : place f64 n ≡ mid f64 + mag f64 n → place f64 least ≡ mid f64 + mag f64 least → mag f64 least ≤ mag f64 n
      below a b = omega (arith, length_over)

-- ---- where the root is below 4, the argument is below 16
root_16 : sqrt f64 sixteen ≡ four
unfolding sqrt root_units isqrt units size
root_16 = refl

from_16 : (s : Float) → T (plus s) → T (finite s) → T (fits f64 s) → place f64 sixteen ≤ place f64 s → T (positive s)
from_16 nan a p g h = absurd p
from_16 (inf s) a p g h = absurd p
from_16 (fin true m e) a p g h = absurd a
from_16 (fin false zero e) a p g h = absurd (no (zeroed e))
  where
    zeroed : (e : ℤ) → mag f64 (fin false zero e) ≡ 0
    zeroed e = unfold mag in simp (zero-mul, zero-div)

    over : 0 < mag f64 sixteen
    over = unfold mag in lit< tt

    no : mag f64 (fin false zero e) ≡ 0 → ⊥
    no z = omega (arith, over, place_plus f64 (fin false zero e) tt, place_plus f64 sixteen tt)
from_16 (fin false (suc m) e) a p g h = lt→ltb 0 (suc m) (zero-lt-suc m)

square_under : (s : Float) → T (fits f64 s) → T (plus s) → T (finite s) → T (not (le four (sqrt f64 s))) → place f64 s < place f64 sixteen
square_under s g a p h = lt_of_not-le (λ (k : place f64 sixteen ≤ place f64 s).
    let S = held g (finite_number s p) in
    T_not (le four (sqrt f64 s)) h (rw root_16 at (sqrt_mono sixteen s sixteen_held.fit g tt (from_16 s a p g k) (up_le f64 sixteen s sixteen_held S k))))

-- ---- the parts
one_in : Within f64 0 one
one_in = record { fit = one_held.fit; fine = one_finite; small = unfold mag of_bits in leb→le (mag f64 one) (2 ^ (low f64 + 0)) tt }

-- the sum of four squares, as `norm` adds them
abbrev pub square4 : Float → Float → Float → Float → Float
square4 w x y z = add f64 (add f64 (add f64 (mul f64 w w) (mul f64 x x)) (mul f64 y y)) (mul f64 z z)

-- a finite f64
pub record Value (x : Float) : Type 0 where
  pub fit : T (fits f64 x)
  pub fine : T (finite x)

module _ (tol w x y z : Float) (B : Below1 tol) (W : Value w) (X : Value x) (Y : Value y) (Z : Value z) where
  abbrev n : Float
  n = sqrt f64 (square4 w x y z)

  -- UNIT: four values whose length is finite and within the tolerance of 1, each scaled by 1 / length, are at most 2 ^ 56 in size
  pub unit_in : T (finite n) → T (not (lt tol (abs (sub f64 n one)))) → Within f64 56 (mul f64 w (div f64 one n)) × Within f64 56 (mul f64 x (div f64 one n)) × Within f64 56 (mul f64 y (div f64 one n)) × Within f64 56 (mul f64 z (div f64 one n))
  unit_in fn near =
      let s = square4 w x y z in
      let ww = mul f64 w w in
      let xx = mul f64 x x in
      let yy = mul f64 y y in
      let zz = mul f64 z z in
      let fs : T (finite s) = sqrt_finite f64 s fn in
      let pw = square_plus f64 w (finite_number w W.fine) in
      let px = square_plus f64 x (finite_number x X.fine) in
      let py = square_plus f64 y (finite_number y Y.fine) in
      let pz = square_plus f64 z (finite_number z Z.fine) in
      let c = add_finite f64 (add f64 (add f64 ww xx) yy) zz fs in
      let d = add_finite f64 (add f64 ww xx) yy c.0 in
      let e = add_finite f64 ww xx d.0 in
      let p1 = add_plus f64 ww xx pw px in
      let p2 = add_plus f64 (add f64 ww xx) yy p1 py in
      let ps = add_plus f64 (add f64 (add f64 ww xx) yy) zz p2 pz in
      let l1 = sum_l f64 ww xx e.0 e.1 (mul-fits f64 _ _) (mul-fits f64 _ _) pw px in
      let r1 = sum_r f64 ww xx e.0 e.1 (mul-fits f64 _ _) (mul-fits f64 _ _) pw px in
      let l2 = sum_l f64 (add f64 ww xx) yy d.0 d.1 (add-fits f64 _ _) (mul-fits f64 _ _) p1 py in
      let r2 = sum_r f64 (add f64 ww xx) yy d.0 d.1 (add-fits f64 _ _) (mul-fits f64 _ _) p1 py in
      let l3 = sum_l f64 (add f64 (add f64 ww xx) yy) zz c.0 c.1 (add-fits f64 _ _) (mul-fits f64 _ _) p2 pz in
      let r3 = sum_r f64 (add f64 (add f64 ww xx) yy) zz c.0 c.1 (add-fits f64 _ _) (mul-fits f64 _ _) p2 pz in
      let gs : T (fits f64 s) = add-fits f64 _ _ in
      let gn = sqrt_fits f64 s gs in
      let us = square_under s gs ps fs (length_under tol n B gn fn near) in
      let inv : Within f64 54 (div f64 one n) = div_in one_in (length_beyond tol n B gn fn near (sqrt_plus f64 s ps)) tt in (
        mul_in {j = 2} {k = 54} (square_in w W.fit W.fine (omega arith)) inv tt,
        mul_in {j = 2} {k = 54} (square_in x X.fit X.fine (omega arith)) inv tt,
        mul_in {j = 2} {k = 54} (square_in y Y.fit Y.fine (omega arith)) inv tt,
        mul_in {j = 2} {k = 54} (square_in z Z.fit Z.fine (omega arith)) inv tt,
      )
