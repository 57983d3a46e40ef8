-- The times of nodes and samples: node 0 stands at a zero, nodes after one above 0 are not below 0, and a sample's time is no NaN. Assumes nothing.
use Rattle.std.specs.Prelude.{◌≡◌, refl, Bool, true, false, cond, ℕ, zero, suc, ◌*◌, ◌^◌, ◌≤◌, ◌<◌, T, ltb, ℤ, pos, Float, Some, None}
use Rattle.std.proofs.Common.{arith, lit≤, pow_pos}
use Rattle.std.proofs.Math.Dec.{eqb-suc-zero}
use Rattle.std.specs.Float.{nan, inf, fin}
use Rattle.std.specs.Float.Ieee.{binary64, up, down, unlike, size, units, round, mul, sub, div, of_int, of_bits, le, lt, fits}
use Rattle.std.specs.Float.Ieee.Fits.{of_int-fits}
use Rattle.std.specs.Float.Ieee.Order.{round_mono}
use Rattle.std.specs.Float.Ieee.Scale.{finite}
use Rattle.common.specs.Floats.{one, plus_zero}
use Rattle.float.specs.Ops.{number}
use Rattle.float_laws.specs.Commute.{mul_swap}
use Rattle.float_laws.specs.Finite.{mul_number}
use Rattle.float_laws.specs.Order.{held, lt_le_trans, place_neg}
use Rattle.float_laws.specs.Place.{mid, place}
use Rattle.float_laws.specs.Signs.{plus, place_plus, round_plus, round_neg, round_number, round_held}
use Rattle.float_laws.specs.Sizes.{Within, round_in}
use Rattle.mean_laws.specs.Fractions.{gap, gap_fine, mag_null}
use Rattle.mean_laws.specs.Means.{Plain}
use Rattle.mean_laws.specs.Weights.{nought, nought_place, none_is}
use Rattle.run_laws.specs.Runs as Runs
use Rattle.samples.specs.CountLaws.{given_count}
use Rattle.samples.specs.Counts as Counts
use Rattle.samples.specs.Counts.{from_rate, most, sample_count}
use Rattle.samples.specs.Samples.{time_of}

-- ---- a whole number as a float
whole_plus : (k : ℕ) → T (plus (of_int binary64 (pos k)))
unfolding of_int
whole_plus k = round_plus binary64 k 1

whole_plain : (k : ℕ) → k ≤ 2 ^ 17 → Plain (of_int binary64 (pos k))
unfolding of_int
whole_plain k h = let w : Within binary64 17 (round binary64 false k 1) = round_in binary64 false k 1 17 (pow_pos 0) (lit≤ tt) (omega arith) in record { fit = w.fit; fine = w.fine }

-- ---- the times of nodes: k steps of dt
zero_whole : of_int binary64 (pos 0) ≡ nought false
unfolding of_int round units size
zero_whole = refl

-- node 0 stands at a zero
pub first_time : (dt : Float) → Plain dt → place binary64 (Runs.time_of dt 0) ≡ mid binary64
first_time dt p =
    let z = none_is dt false p in
    rw (zero_whole, mul_swap binary64 (nought false) dt, z.1) (nought_place z.0)

-- a product with a sign is not above 0
minus_under : (x : Float) (m : ℕ) (e : ℤ) → T (plus x) → T (finite x) → place binary64 (mul binary64 x (fin true m e)) ≤ mid binary64
unfolding mul
minus_under nan m e p q = absurd p
minus_under (inf s) m e p q = absurd q
minus_under (fin true n d) m e p q = absurd p
minus_under (fin false n d) m e p q =
    let N = n * up d * (m * up e) in
    let D = down d * down e in
    let a = place_neg binary64 (round binary64 false N D) (round_held binary64 false N D) in
    let b = place_plus binary64 (round binary64 false N D) (round_plus binary64 N D) in
    rw (round_neg binary64 N D) (omega arith)

plus_times : (x : Float) (m : ℕ) (e : ℤ) → T (plus x) → T (finite x) → T (plus (mul binary64 x (fin false m e)))
unfolding mul
plus_times nan m e p q = absurd p
plus_times (inf s) m e p q = absurd q
plus_times (fin true n d) m e p q = absurd p
plus_times (fin false n d) m e p q = round_plus binary64 (n * up d * (m * up e)) (down d * down e)

-- where one time is above 0, no other is below it
pub times_plus : (dt : Float) (j k : ℕ) → T (finite dt) → j ≤ 2 ^ 17 → k ≤ 2 ^ 17 → mid binary64 < place binary64 (Runs.time_of dt j) → T (plus (Runs.time_of dt k))
times_plus nan j k p a b h = absurd p
times_plus (inf s) j k p a b h = absurd p
times_plus (fin true m e) j k p a b h = let u = minus_under (of_int binary64 (pos j)) m e (whole_plus j) (whole_plain j a).fine in absurd (omega arith)
times_plus (fin false m e) j k p a b h = plus_times (of_int binary64 (pos k)) m e (whole_plus k) (whole_plain k b).fine

-- ---- the time of a sample

-- a count that is given is 17 at least
least_count : (duration : Float) (requested : ℕ) (alpha : Float) {n : ℕ} → sample_count duration requested alpha ≡ Some n → 17 ≤ n
unfolding sample_count Counts.count_within
least_count duration requested alpha {n} = by (most requested (from_rate duration alpha)) (ltb 100000 (most requested (from_rate duration alpha))) (omega arith)
  where
    by : (m : ℕ) (b : Bool) → 17 ≤ m → cond b None (Some m) ≡ Some n → 17 ≤ n
    by m true l h = absurd (let z : ◌≡◌ {A = ℕ} 0 1 = cc in omega arith)
    by m false l h = let z : m ≡ n = cc in omega arith

-- a number over what is above 0 is a number
number_over : (x y : Float) → T (number x) → T (finite y) → mid binary64 < place binary64 y → T (number (div binary64 x y))
unfolding div place
number_over nan y p q h = absurd p
number_over (inf s) nan p q h = absurd q
number_over (inf s) (inf t) p q h = absurd q
number_over (inf s) (fin t n d) p q h = tt
number_over (fin s m e) nan p q h = absurd q
number_over (fin s m e) (inf t) p q h = absurd q
number_over (fin s m e) (fin true zero d) p q h = absurd (omega (arith, mag_null binary64 true d))
number_over (fin s m e) (fin false zero d) p q h = absurd (omega (arith, mag_null binary64 false d))
number_over (fin s m e) (fin t (suc n) d) p q h = rw (eqb-suc-zero n) (round_number binary64 (unlike s t) (m * up e * down d) (suc n * up d * down e))

one_plain : Plain one
unfolding of_bits fits
one_plain = record { fit = tt; fine = tt }

above_one : T (lt one (of_int binary64 (pos 17)))
unfolding of_int round units size of_bits lt
above_one = tt

-- n samples are n - 1 steps, above 0
steps : (n : ℕ) → 17 ≤ n → n ≤ 100000 → T (lt one (of_int binary64 (pos n)))
steps n a b =
    let w = whole_plain n (omega arith) in
    lt_le_trans binary64 one (of_int binary64 (pos 17)) (of_int binary64 (pos n)) one_plain.fit (of_int-fits binary64 (pos 17)) w.fit above_one
    (unfold of_int in round_mono binary64 17 1 n 1 (pow_pos 0) (pow_pos 0) (omega arith))

zero_one : T (le plus_zero one)
unfolding of_bits le
zero_one = tt

pub sample_number : (duration : Float) (requested : ℕ) (alpha : Float) {n : ℕ} (index : ℕ) → T (finite duration) → sample_count duration requested alpha ≡ Some n → index < n → T (number (time_of duration n index))
unfolding time_of
sample_number duration requested alpha {n} index p c l =
    let m : n ≤ 100000 = given_count duration requested alpha c in
    let w = whole_plain n (omega arith) in
    let s = steps n (least_count duration requested alpha c) m in
    number_over (mul binary64 duration (of_int binary64 (pos index))) (sub binary64 (of_int binary64 (pos n)) one)
    (mul_number binary64 duration (of_int binary64 (pos index)) p (whole_plain index (omega arith)).fine)
    (gap_fine (of_int binary64 (pos n)) one w one_plain s zero_one)
    (gap (of_int binary64 (pos n)) one w one_plain s)
