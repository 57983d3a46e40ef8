-- Whole numbers against floats, and the count by its outcomes. Assumes nothing.
use Rattle.std.specs.Prelude.{◌≡◌, ℕ, suc, ◌+◌, ◌-◌, ◌*◌, ◌/◌, ◌^◌, ◌<◌, ◌≤◌, max, Bool, true, false, cond, not, T, ℤ, pos, nat_lt, refl, Float, Some, None}
use Rattle.std.proofs.Common.{sym, ap, ◌∙◌, true≢false, le-div_iff_mul-le, div-lt_iff_lt-mul, le_of_suc-le-suc, suc-mul, mul-one, zero-mul, mul_right_comm, ltb-true, ltb-false, lt→ltb, le→leb}
use native.Mathlib.Omega.{arith}
use Rattle.std.proofs.Math.Arith.{le→nltb}
use Rattle.std.specs.Float.{nan, inf, fin}
use Rattle.std.specs.Float.Ieee.{binary64, up, down, size, units, round, neg, lt, le, div, of_int, of_bits, to_unsigned, in_float}
use Rattle.std.specs.Float.Ieee.Back.{round_whole, unsigned_back}
use Rattle.std.specs.Float.Ieee.Bits.{is_true, is_false}
use Rattle.std.specs.Float.Ieee.Exact.{HasValue}
use Rattle.std.specs.Float.Ieee.Fits.{down_pos}
use Rattle.std.specs.Float.Ieee.Order.{round_mono}
use Rattle.float.specs.Ops as Ops
use Rattle.float_laws.specs.Numbers.{lt_nan_r}
use Rattle.float_laws.specs.Order.{le_up, up_nlt}
use Rattle.float_laws.specs.Place.{same_lt}
use Rattle.float_laws.specs.Signs.{plus, round_plus, round_neg, round_held}
use Rattle.samples.specs.Counts.{spacing, from_rate, most, count_within, sample_count}
use Rattle.samples.specs.CountInner.{Steps}

-- k as a float, and x rounded up and cast
abbrev pub whole : ℕ → Float
whole k = of_int binary64 (pos k)

abbrev pub ceiling : Float → ℕ
ceiling x = to_unsigned 64 (Ops.ceil x)

no : {A : Type 0} → true ≡ false → A
no h = absurd (true≢false h)

is_not : (b : Bool) → T (not b) → b ≡ false
is_not true h = absurd h
is_not false h = refl

-- ---- v / d, rounded up
abbrev above : ℕ → ℤ → ℕ
above m e = (m * up e + (down e - 1)) / down e

rises : (k m : ℕ) (e : ℤ) → k * down e < m * up e → k < above m e
rises k m e h = (le-div_iff_mul-le (down_pos e)).1 (omega (arith, suc-mul k (down e), down_pos e))

holds : (k m : ℕ) (e : ℤ) → m * up e ≤ k * down e → above m e ≤ k
holds k m e h = le_of_suc-le-suc ((div-lt_iff_lt-mul (down_pos e)).1 (omega (arith, suc-mul k (down e), down_pos e)))

back : (k : ℕ) → k ≤ 2 ^ 53 → to_unsigned 64 (whole k) ≡ k
unfolding in_float
back k h = (unsigned_back binary64 64 k (le→leb k (2 ^ 53) h) (omega arith)).1

ceiling_plus : (m : ℕ) (e : ℤ) → above m e ≤ 2 ^ 53 → ceiling (fin false m e) ≡ above m e
unfolding Ops.ceil of_int
ceiling_plus m e h = back (above m e) h

minus_none : (y : Float) → T (plus y) → to_unsigned 64 (neg y) ≡ 0
unfolding neg to_unsigned
minus_none nan p = refl
minus_none (inf true) p = absurd p
minus_none (inf false) p = refl
minus_none (fin true a b) p = absurd p
minus_none (fin false a b) p = refl

ceiling_minus : (m : ℕ) (e : ℤ) → ceiling (fin true m e) ≡ 0
unfolding Ops.ceil
ceiling_minus m e = rw (round_neg binary64 (m * up e / down e) 1) (minus_none (round binary64 false (m * up e / down e) 1) (round_plus binary64 (m * up e / down e) 1))

-- ---- the whole number k against x
against : (k : ℕ) (y : Float) → HasValue y false k 1 → (m : ℕ) (e : ℤ) → lt y (fin false m e) ≡ nat_lt (k * down e) (m * up e)
unfolding lt
against k nan v m e = absurd v
against k (inf s) v m e = absurd v
against k (fin true a b) v m e = no v.0
against k (fin false a b) v m e =
    same_lt (a * up b * down e) (m * up e * down b) (down b) (k * down e) (m * up e) 1 (down_pos b) (omega arith)
    (mul-one _ ∙ ap (λ (z : ℕ). z * down e) (sym (mul-one (a * up b)) ∙ v.1) ∙ mul_right_comm k (down b) (down e)) (mul-one _)

not_minus : (k : ℕ) (y : Float) → HasValue y false k 1 → (m : ℕ) (e : ℤ) → lt y (fin true m e) ≡ false
unfolding lt
not_minus k nan v m e = refl
not_minus k (inf s) v m e = absurd v
not_minus k (fin true a b) v m e = no v.0
not_minus k (fin false a b) v m e = refl

infinite : (k : ℕ) (y : Float) → HasValue y false k 1 → (s : Bool) → lt y (inf s) ≡ cond s false true
unfolding lt
infinite k nan v s = absurd v
infinite k (inf t) v s = absurd v
infinite k (fin t a b) v true = refl
infinite k (fin t a b) v false = refl

-- 2^52, up to which every whole number is a value of the format
abbrev large : Float
large = of_bits binary64 0x4330_0000_0000_0000

large_is : round binary64 false (2 ^ 52) 1 ≡ large
unfolding round units size of_bits
large_is = refl

-- a float with the sign + from there on is cast to as much at least
cast_large : (y : Float) → T (plus y) → lt y large ≡ false → 2 ^ 52 ≤ to_unsigned 64 y
unfolding lt of_bits to_unsigned
cast_large nan p h = absurd p
cast_large (inf true) p h = absurd p
cast_large (inf false) p h = omega arith
cast_large (fin true m e) p h = absurd p
cast_large (fin false m e) p h =
    let w : 2 ^ 52 ≤ m * up e / down e = (le-div_iff_mul-le (down_pos e)).1 (omega (arith, ltb-false (m * up e * 1) (1 * 2 ^ 52 * down e) h)) in
    omega arith

-- and so is a whole number, rounded
round_large : (c : ℕ) → 2 ^ 52 ≤ c → 2 ^ 52 ≤ to_unsigned 64 (round binary64 false c 1)
round_large c h =
    let y = round binary64 false c 1 in
    let m : T (le large y) = rw large_is at (round_mono binary64 (2 ^ 52) 1 c 1 (omega arith) (omega arith) (omega arith)) in
    let l = rw large_is at (round_held binary64 false (2 ^ 52) 1) in
    let r = round_held binary64 false c 1 in
    cast_large y (round_plus binary64 c 1) (is_not (lt y large) (up_nlt binary64 y large r l (le_up binary64 large y l r m)))

ceiling_large : (m : ℕ) (e : ℤ) → 2 ^ 52 ≤ above m e → 2 ^ 52 ≤ ceiling (fin false m e)
unfolding Ops.ceil
ceiling_large m e h = round_large (above m e) h

over_by : (k m : ℕ) (e : ℤ) → k < above m e → k < 2 ^ 52 → k < ceiling (fin false m e)
over_by k m e v K = by (nat_lt (2 ^ 52) (above m e)) refl
  where
    by : (b : Bool) → nat_lt (2 ^ 52) (above m e) ≡ b → k < ceiling (fin false m e)
    by false q = omega (arith, ceiling_plus m e (omega (arith, ltb-false (2 ^ 52) (above m e) q)))
    by true q = omega (arith, ceiling_large m e (omega (arith, ltb-true (2 ^ 52) (above m e) q)))

module _ (k : ℕ) (K : k < 2 ^ 52) where
  value : HasValue (whole k) false k 1
  unfolding of_int
  value = round_whole binary64 false k (omega arith)

  -- x is not above k: nor is the whole number above it
  pub ceiling_under : (x : Float) → lt (whole k) x ≡ false → ceiling x ≤ k
  ceiling_under nan h = unfold Ops.ceil to_unsigned in omega arith
  ceiling_under (inf true) h = unfold Ops.ceil to_unsigned in omega arith
  ceiling_under (inf false) h = no (sym (infinite k (whole k) value false) ∙ h)
  ceiling_under (fin true m e) h = omega (arith, ceiling_minus m e)
  ceiling_under (fin false m e) h =
      let c : above m e ≤ k = holds k m e (ltb-false (k * down e) (m * up e) (sym (against k (whole k) value m e) ∙ h)) in
      omega (arith, ceiling_plus m e (omega arith))

  -- x is above k: so is the whole number above it
  pub ceiling_over : (x : Float) → lt (whole k) x ≡ true → k < ceiling x
  ceiling_over nan h = no (sym h ∙ lt_nan_r (whole k))
  ceiling_over (inf true) h = no (sym h ∙ infinite k (whole k) value true)
  ceiling_over (inf false) h = unfold Ops.ceil to_unsigned in omega arith
  ceiling_over (fin true m e) h = no (sym h ∙ not_minus k (whole k) value m e)
  ceiling_over (fin false m e) h = over_by k m e (rises k m e (ltb-true (k * down e) (m * up e) (sym (against k (whole k) value m e) ∙ h))) K

-- what is above a whole number is above 0
positive : (k m : ℕ) (e : ℤ) → k * down e < m * up e → T (lt (of_bits binary64 0) (fin false m e))
unfolding lt of_bits
positive k m e h = lt→ltb (0 * 1 * down e) (m * up e * 1) (omega (arith, zero-mul (down e)))

above_zero : (x : Float) (k : ℕ) → k < 2 ^ 52 → lt (whole k) x ≡ true → T (lt (of_bits binary64 0) x)
above_zero nan k K h = no (sym h ∙ lt_nan_r (whole k))
above_zero (inf true) k K h = no (sym h ∙ infinite k (whole k) (value k K) true)
above_zero (inf false) k K h = unfold lt of_bits in tt
above_zero (fin true m e) k K h = no (sym h ∙ not_minus k (whole k) (value k K) m e)
above_zero (fin false m e) k K h = positive k m e (ltb-true (k * down e) (m * up e) (sym (against k (whole k) (value k K) m e) ∙ h))

by_parts : (P : Float → Type 0) → ((m : ℕ) (e : ℤ) → m * up e ≤ 99999 * down e → P (fin false m e)) → (x : Float) → Steps x → P x
unfolding lt of_bits
by_parts P f nan h = absurd h.0
by_parts P f (inf true) h = absurd h.0
by_parts P f (inf false) h = no h.1
by_parts P f (fin true m e) h = absurd h.0
by_parts P f (fin false m e) h = f m e (omega (arith, ltb-false (99999 * 1 * down e) (m * up e * 1) h.1))

-- it can be cut to a whole number
pub steps_fit : (x : Float) → Steps x → T (lt (fin true 1 (pos 0)) x) × T (lt x (fin false 1 (pos 64)))
unfolding lt
steps_fit = by_parts (λ x. T (lt (fin true 1 (pos 0)) x) × T (lt x (fin false 1 (pos 64)))) (λ m e h.
    (lt→ltb 0 (1 * 1 * down e + m * up e * 1) (omega (arith, down_pos e)), lt→ltb (m * up e * 1) (1 * 2 ^ 64 * down e) (omega (arith, down_pos e))))

module _ (n : ℕ) where
  cut : (m : ℕ) (e : ℤ) → m * up e ≤ 99999 * down e → m * up e / down e ≤ 99999
  cut m e h = le_of_suc-le-suc ((div-lt_iff_lt-mul (down_pos e)).1 (omega (arith, down_pos e)))

  part : (m : ℕ) (e : ℤ) → m * up e ≤ 99999 * down e → n ≡ to_unsigned 64 (fin false m e) → n ≡ m * up e / down e
  unfolding to_unsigned
  part m e h q = omega (arith, cut m e h)

  pub steps_cut : (x : Float) → Steps x → n ≡ to_unsigned 64 x → n ≤ 99999
  steps_cut = by_parts (λ x. n ≡ to_unsigned 64 x → n ≤ 99999) (λ m e h q. omega (arith, part m e h q, cut m e h))

  test : (m : ℕ) (e : ℤ) → m * up e ≤ 99999 * down e → n ≡ to_unsigned 64 (fin false m e) → lt (whole n) (fin false m e) ≡ nat_lt (n * down e) (m * up e)
  test m e h q = against n (whole n) (value n (omega (arith, part m e h q, cut m e h))) m e

  pub steps_up : (x : Float) → Steps x → n ≡ to_unsigned 64 x → lt (whole n) x ≡ true → n + 1 ≡ ceiling x
  steps_up = by_parts (λ x. n ≡ to_unsigned 64 x → lt (whole n) x ≡ true → n + 1 ≡ ceiling x) (λ m e h q t.
      let d = part m e h q in
      let l : n < above m e = rises n m e (ltb-true (n * down e) (m * up e) (sym (test m e h q) ∙ t)) in
      let u : above m e ≤ n + 1 = holds (n + 1) m e (omega (arith, suc-mul n (down e), (div-lt_iff_lt-mul {k = down e} {x = m * up e} {y = suc n} (down_pos e)).0 (omega arith))) in
      omega (arith, cut m e h, ceiling_plus m e (omega (arith, cut m e h))))

  pub steps_same : (x : Float) → Steps x → n ≡ to_unsigned 64 x → lt (whole n) x ≡ false → n ≡ ceiling x
  steps_same = by_parts (λ x. n ≡ to_unsigned 64 x → lt (whole n) x ≡ false → n ≡ ceiling x) (λ m e h q t.
      let d = part m e h q in
      let u : above m e ≤ n = holds n m e (ltb-false (n * down e) (m * up e) (sym (test m e h q) ∙ t)) in
      let l : n ≤ above m e = (le-div_iff_mul-le (down_pos e)).1 (omega (arith, (le-div_iff_mul-le {k = down e} {x = n} {y = m * up e} (down_pos e)).0 (omega arith))) in
      omega (arith, cut m e h, ceiling_plus m e (omega (arith, cut m e h))))

-- ---- the count: n is the larger of what is requested and 17, v the spacing
limit_is : whole 99999 ≡ of_bits binary64 0x40f8_69f0_0000_0000
unfolding of_int round units size of_bits
limit_is = refl

module _ (duration : Float) (requested : ℕ) (alpha : Float) {v : Float} {n : ℕ} (d : v ≡ spacing alpha) (l : n ≡ max requested 17) where
  abbrev steps : Float
  steps = div binary64 duration v

  rated : ceiling steps + 1 ≡ from_rate duration alpha
  unfolding from_rate
  rated = rw d

  many : 100000 < most requested (ceiling steps + 1) → None ≡ sample_count duration requested alpha
  unfolding sample_count count_within
  many h = rw (← rated, is_true (nat_lt 100000 (most requested (ceiling steps + 1))) (lt→ltb 100000 (most requested (ceiling steps + 1)) h))

  few : {k : ℕ} → k ≡ most requested (ceiling steps + 1) → k ≤ 100000 → Some k ≡ sample_count duration requested alpha
  unfolding sample_count count_within
  few {k} q h = rw (← rated, ← q, is_false (nat_lt 100000 k) (le→nltb 100000 k h))

  pub many_requested : 100000 < n → None ≡ sample_count duration requested alpha
  many_requested h = many (omega arith)

  pub many_steps : lt (of_bits binary64 0x40f8_69f0_0000_0000) steps ≡ true → None ≡ sample_count duration requested alpha
  many_steps h = many (omega (arith, ceiling_over 99999 (omega arith) steps (rw limit_is h)))

  module _ {y : Float} (m : n ≤ 100000) (w : y ≡ whole (n - 1)) where
    pub as_requested : lt y steps ≡ false → Some n ≡ sample_count duration requested alpha
    as_requested h = few (omega (arith, ceiling_under (n - 1) (omega arith) steps (rw w at h))) m

    module _ (h : lt y steps ≡ true) (f : lt (of_bits binary64 0x40f8_69f0_0000_0000) steps ≡ false) where
      pub steps_most : Steps steps
      steps_most = (above_zero steps (n - 1) (omega arith) (rw w at h), f)

      pub steps_few : ceiling steps ≤ 99999
      steps_few = ceiling_under 99999 (omega arith) steps (rw limit_is f)

      pub by_rate : {r : ℕ} → r ≡ ceiling steps → Some (r + 1) ≡ sample_count duration requested alpha
      by_rate q = few (omega (arith, ceiling_over (n - 1) (omega arith) steps (rw w at h))) (omega (arith, steps_few))

-- a count that is given is at most 100,000
pub given_count : (duration : Float) (requested : ℕ) (alpha : Float) {n : ℕ} → sample_count duration requested alpha ≡ Some n → n ≤ 100000
unfolding sample_count count_within
given_count duration requested alpha {n} = by (most requested (from_rate duration alpha)) (nat_lt 100000 (most requested (from_rate duration alpha))) refl
  where
    by : (m : ℕ) (b : Bool) → nat_lt 100000 m ≡ b → cond b None (Some m) ≡ Some n → n ≤ 100000
    by m true e h = absurd (let z : ◌≡◌ {A = ℕ} 0 1 = cc in omega arith)
    by m false e h = let z : m ≡ n = cc in omega (arith, ltb-false)
