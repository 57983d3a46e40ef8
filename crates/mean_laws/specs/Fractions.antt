-- A computed fraction (t - t0) / (t1 - t0), rounded at each step, of finite times t0 < t ≤ t1: it is from 0 to 1, unless t - t0 overflows; and that it does not where t0 is 0 at least.
-- Assumes nothing.
use Rattle.std.specs.Prelude.{◌≡◌, refl, Bool, ◌&&◌, ◌||◌, ℕ, zero, suc, ◌+◌, ◌*◌, ◌/◌, ◌^◌, ◌≤◌, ◌<◌, ℤ, pos, negsuc, ltb, eqb, Float}
use Rattle.std.proofs.Common.{sym, ap, ◌∙◌, le_trans, le_of_eq, le_of_lt, lt_of_lt_of_le, lt_of_le_of_lt, mul-pos, mul-one, one-mul, zero-mul, zero-lt-suc, ltb→lt, eqb→eq}
use Rattle.std.proofs.Math.Bool.{true, false}
use Rattle.std.proofs.Math.Nat.{zero-div}
use native.Mathlib.Omega.{arith}
use Rattle.std.proofs.Math.Dec.{T, eqb-suc-zero}
use Rattle.std.specs.Float.Ieee.{nan, binary64, low, up, down, size, units, round, sum, add, sub, div, neg, lt, le, fits, of_bits}
use Rattle.std.specs.Float.{inf, fin, Format}
use Rattle.std.specs.Float.Ieee.Fits.{up_pos, down_pos, and_r, round-fits, neg-fits}
use Rattle.std.specs.Float.Ieee.Order.{round_mono}
use Rattle.std.specs.Float.Ieee.Scale.{finite}
use Rattle.common.specs.Floats.{one, plus_zero}
use Rattle.float.specs.Ops.{number}
use Rattle.float_laws.specs.Place.{mag, mid, place, place_inf}
use Rattle.float_laws.specs.Order.{Held, held, lt_up, le_up, up_le, place_neg}
use Rattle.float_laws.specs.Signs.{plus, plus_number, place_plus, round_plus}
use Rattle.float_laws.specs.Finite.{finite_number, finite_neg, sub_number}
use Rattle.float_laws.specs.Rounding.{add_above, add_below, add_mono}
use Rattle.float_laws.specs.Limits.{finite_under}
use Rattle.mean_laws.specs.Means.{Plain, Fraction}
use Rattle.mean_laws.specs.Weights.{plain_held}
use Rattle.mean_laws.specs.Rounded.{nil, nil_fits, nil_place}

-- the smallest f64 above 0: one unit
abbrev tiny : Float
tiny = fin false 1 (negsuc 1073)

tiny_held : Held binary64 tiny
unfolding fits
tiny_held = held tt tt

tiny_mag : mag binary64 tiny ≡ 1
unfolding mag
tiny_mag = refl

tiny_place : place binary64 tiny ≡ mid binary64 + 1
tiny_place = place_plus binary64 tiny tt ∙ ap (λ (z : ℕ). mid binary64 + z) tiny_mag

-- ---- a quotient N / D at most 1
one_round : round binary64 false 1 1 ≡ one
unfolding round units size of_bits
one_round = refl

-- what has the sign + is 0 at least
pub plus_from0 : (x : Float) → T (fits binary64 x) → T (plus x) → T (le plus_zero x)
unfolding of_bits
plus_from0 x f p = up_le binary64 nil x (held (nil_fits binary64) tt) (held f (plus_number x p)) (omega (arith, nil_place binary64, place_plus binary64 x p))

round_part : (N D : ℕ) → 0 < D → N ≤ D → Fraction (round binary64 false N D)
round_part N D p h = record {
  fit = round-fits binary64 false N D;
  from0 = plus_from0 (round binary64 false N D) (round-fits binary64 false N D) (round_plus binary64 N D);
  upto1 = rw one_round at (round_mono binary64 N D 1 1 p (zero-lt-suc 0) (le_trans (le_of_eq (mul-one N)) (le_trans h (le_of_eq (sym (one-mul D))))));
}

nil_part : Fraction nil
unfolding of_bits le fits
nil_part = record { fit = tt; from0 = tt; upto1 = tt }

test_le : (a b : ℕ) (c : Bool) → T (ltb a b || (eqb a b && c)) → a ≤ b
test_le a b c t = go (ltb a b) (eqb a b) (ltb→lt a b) (eqb→eq a b) t
  where
    go : (x y : Bool) → (T x → a < b) → (T y → a ≡ b) → T (x || (y && c)) → a ≤ b
    go true y p q t = le_of_lt (p tt)
    go false true p q t = le_of_eq (q tt)
    go false false p q t = absurd t

pub mag_null : (f : Format) (s : Bool) (e : ℤ) → mag f (fin s zero e) ≡ 0
unfolding mag
mag_null f s e = ap (λ (z : ℕ). z * 2 ^ low f / down e) (zero-mul (up e)) ∙ ap (λ (z : ℕ). z / down e) (zero-mul (2 ^ low f)) ∙ zero-div (down e)

-- n above 0, and at most d
quotient : (n d : Float) → T (finite n) → mid binary64 < place binary64 n → T (le n d) → Fraction (div binary64 n d)
unfolding div le lt place
quotient nan d p h l = absurd p
quotient (inf s) d p h l = absurd p
quotient (fin true m e) d p h l = absurd (omega arith)
quotient (fin false m e) nan p h l = absurd l
quotient (fin false m e) (inf true) p h l = absurd l
quotient (fin false m e) (inf false) p h l = nil_part
quotient (fin false zero e) (fin t n d) p h l = absurd (omega (arith, mag_null binary64 false e))
quotient (fin false (suc m) e) (fin true n d) p h l =
    let N = suc m * up e * down d in
    let z : N ≡ 0 = eqb→eq N 0 (and_r (eqb N (n * up d * down e)) (eqb N 0) l) in
    absurd (omega (arith, mul-pos (mul-pos (zero-lt-suc m) (up_pos e)) (down_pos d)))
quotient (fin false (suc m) e) (fin false n d) p h l =
    let N = suc m * up e * down d in
    let D = n * up d * down e in
    let k : N ≤ D = test_le N D true l in
    let o : 0 < D = lt_of_lt_of_le (mul-pos (mul-pos (zero-lt-suc m) (up_pos e)) (down_pos d)) k in
    rw (not_null n d e o) (round_part N D o k)
  where
    not_null : (n : ℕ) (d e : ℤ) → 0 < n * up d * down e → eqb n 0 ≡ false
    not_null zero d e h = absurd (omega (arith, h, zero-mul (up d), ap (λ (z : ℕ). z * down e) (zero-mul (up d)), zero-mul (down e)))
    not_null (suc n) d e h = eqb-suc-zero n

-- ---- t - t0, of times t0 < t
module _ (t t0 : Float) (p : Plain t) (p0 : Plain t0) (after : T (lt t0 t)) where
  abbrev n : Float
  n = sub binary64 t t0

  h0 : Held binary64 t0
  h0 = plain_held p0

  h : Held binary64 t
  h = plain_held p

  -- it is above 0
  pub gap : mid binary64 < place binary64 n
  unfolding sub
  gap =
      let o = lt_up binary64 t0 t h0 h after in
      let m = place_neg binary64 t0 h0 in
      let e = tiny_place in
      let a = add_above binary64 t (neg t0) tiny p.fine (finite_neg t0 p0.fine) p.fit (neg-fits binary64 t0 p0.fit) tiny_held (finite_under binary64 tiny tiny_held.fit tt) (omega arith) in
      omega arith

  -- it does not overflow where t0 is not below 0
  pub gap_fine : T (le plus_zero t0) → T (finite n)
  unfolding sub of_bits
  gap_fine z =
      let a = le_up binary64 nil t0 (held (nil_fits binary64) tt) h0 z in
      let c = nil_place binary64 in
      let m = place_neg binary64 t0 h0 in
      let o = lt_up binary64 t0 t h0 h after in
      let b = add_below binary64 t (neg t0) t p.fine (finite_neg t0 p0.fine) p.fit (neg-fits binary64 t0 p0.fit) h (omega arith) (omega arith) in
      under n (sub_number binary64 t t0 (finite_number t p.fine) p0.fine) (omega (arith, gap)) (lt_of_le_of_lt b (finite_under binary64 t p.fit p.fine))
    where
      under : (x : Float) → T (number x) → 0 < place binary64 x → place binary64 x < mid binary64 + mid binary64 → T (finite x)
      under nan q a b = absurd q
      under (inf true) q a b = let z = place_inf binary64 true in absurd (omega arith)
      under (inf false) q a b = let z = place_inf binary64 false in absurd (omega arith)
      under (fin s m e) q a b = tt

  -- ---- and t1 - t0, t at most t1
  module _ (t1 : Float) (p1 : Plain t1) (upto : T (le t t1)) where
    -- it is as large at least
    gaps : T (le n (sub binary64 t1 t0))
    unfolding sub
    gaps = add_mono binary64 t t1 (neg t0) p.fine p1.fine (finite_neg t0 p0.fine) p.fit p1.fit (neg-fits binary64 t0 p0.fit) upto

    -- FRACTION: from 0 to 1 where t - t0 does not overflow
    pub fraction_part : T (finite n) → Fraction (div binary64 n (sub binary64 t1 t0))
    fraction_part f = quotient n (sub binary64 t1 t0) f gap gaps

    -- so it is where t0 is not below 0
    pub fraction_later : T (le plus_zero t0) → Fraction (div binary64 n (sub binary64 t1 t0))
    fraction_later z = fraction_part (gap_fine z)

-- without that it may be no number: from the lowest f64 to the highest both differences overflow
abbrev largest : Bool → Float
largest s = fin s 0x1f_ffff_ffff_ffff (pos 971)

pub gap_overflows : div binary64 (sub binary64 (largest false) (largest true)) (sub binary64 (largest false) (largest true)) ≡ nan
unfolding div sub add neg sum round units size
gap_overflows = refl
