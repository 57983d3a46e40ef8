-- The least whole number that is not below a float. Assumes nothing.
use Rattle.std.proofs.Common.{◌≡◌, ℕ, zero, suc, ◌+◌, ◌-◌, ◌*◌, ◌/◌, ◌^◌, ◌<◌, ◌≤◌, Bool, true, false, cond, not, T, ltb, ℤ, pos, negsuc, sym, refl, ap, ◌∙◌, subst, le_of_eq, lt_of_lt_of_le, le_of_suc-le-suc, lt_of_le_of_lt, mul_assoc, suc-mul, div-lt_iff_lt-mul, le_antisymm, lt_of_mul-lt-mul_right, mul-lt-mul_of_pos_right, le-div_iff_mul-le, zero-mul, mul-one, mul_right_comm, arith, lit≤, ltb→lt, lt→ltb, pow_pos, pow-add}
use native.Mathlib.Nat.{pow-succ'}
use lib.Ieee.{Float, nan, inf, fin, Format, binary64, prec, emax, low, up, down, size, odd, units, round, lt, neg, of_int, to_unsigned, fits, of_bits}
use lib.Ieee.Back.{round_whole, whole_unique}
use lib.Ieee.Exact.{HasValue, round_exact}
use lib.Ieee.Fits.{down_pos, round_is, round-fits}
use lib.Ieee.Order.{drop, kept}
use Rattle.wide.proofs.Patterns.{never}
use Rattle.wide.proofs.Products.{same_lt, is_above, not_above}
use Rattle.float.specs.Ops.{ceil}
use Rattle.float.specs.SqrtLaws.{fits_parts}
use Rattle.float.proofs.Arms.{lt_zero, zero_lt, plain_zero}

-- 2^52: from here on in size every f64 is a whole number
abbrev large : Float
large = of_bits binary64 0x4330_0000_0000_0000

-- between 0 and 2^52
abbrev pub Small : Float → Type 0
Small x = T (lt (of_bits binary64 0) x) × T (lt x large)

small_value : (m : ℕ) (e : ℤ) → T (lt (fin false m e) large) → m * up e < 2 ^ 52 * down e
unfolding lt of_bits
small_value m e t = omega (arith, ltb→lt (m * up e * 1) (1 * 2 ^ 52 * down e) t)

-- so it can be cut to a whole number
pub cut_fits : (x : Float) → Small x → T (lt (fin true 1 (pos 0)) x) × T (lt x (fin false 1 (pos 64)))
unfolding lt of_bits
cut_fits nan h = absurd h.0
cut_fits (inf true) h = absurd h.0
cut_fits (inf false) h = absurd h.1
cut_fits (fin true m e) h = absurd h.0
cut_fits (fin false m e) h =
    (lt→ltb 0 (1 * 1 * down e + m * up e * 1) (omega (arith, down_pos e)), lt→ltb (m * up e * 1) (1 * 2 ^ 64 * down e) (omega (arith, small_value m e h.1)))

-- a number between -2^52 and 0, negated
pub negated_small : (x : Float) → T (lt x (of_bits binary64 0)) → T (lt (neg large) x) → Small (neg x)
unfolding lt neg of_bits
negated_small nan h k = absurd h
negated_small (inf true) h k = absurd k
negated_small (inf false) h k = absurd h
negated_small (fin true m e) h k = (lt→ltb (0 * 1 * down e) (m * up e * 1) (omega (arith, zero-mul (down e), ltb→lt 0 (m * up e * 1 + 0 * 1 * down e) h)), k)
negated_small (fin false m e) h k = absurd (subst T (lt_zero false m e) h)

-- ---- the whole part n of a value v / d, and the next number up
module _ (v d n : ℕ) (p : 0 < d) (h : n ≡ v / d) where
  under : v < suc n * d
  under = (div-lt_iff_lt-mul p).0 (omega arith)

  up_next : n * d < v → n + 1 ≡ (v + (d - 1)) / d
  up_next l =
      le_antisymm ((le-div_iff_mul-le p).1 (omega (arith, suc-mul n d)))
      (le_of_suc-le-suc ((div-lt_iff_lt-mul p).1 (omega (arith, under, suc-mul n d, suc-mul (n + 1) d))))

  up_same : v ≤ n * d → n ≡ (v + (d - 1)) / d
  up_same l =
      le_antisymm ((le-div_iff_mul-le p).1 (omega (arith, (le-div_iff_mul-le {k = d} {x = n} {y = v} p).0 (omega arith))))
      (le_of_suc-le-suc ((div-lt_iff_lt-mul p).1 (omega (arith, suc-mul n d))))

-- a float of the value n is below v / d
below_value : (y : Float) (n m : ℕ) (e : ℤ) → HasValue y false n 1 → lt y (fin false m e) ≡ ltb (n * down e) (m * up e)
unfolding lt
below_value nan n m e v = absurd v
below_value (inf s) n m e v = absurd v
below_value (fin true a b) n m e v = never (sym v.0)
below_value (fin false a b) n m e v =
    let q : a * up b * down e ≡ n * down e * down b = ap (λ (z : ℕ). z * down e) (sym (mul-one (a * up b)) ∙ v.1) ∙ mul_right_comm n (down b) (down e) in
    same_lt (a * up b * down e) (m * up e * down b) (n * down e) (m * up e)
    (λ l. lt_of_mul-lt-mul_right (down b) (lt_of_le_of_lt (le_of_eq (sym q)) l)) (λ l. lt_of_le_of_lt (le_of_eq q) (mul-lt-mul_of_pos_right l (down_pos b)))

module _ (m : ℕ) (e : ℤ) (h : T (lt (fin false m e) large)) where
  part_lt : m * up e / down e < 2 ^ 52
  part_lt = (div-lt_iff_lt-mul (down_pos e)).1 (small_value m e h)

  part : to_unsigned 64 (fin false m e) ≡ m * up e / down e
  unfolding to_unsigned
  part = omega (arith, part_lt)

  part_value : (n : ℕ) → n ≡ m * up e / down e → HasValue (of_int binary64 (pos n)) false n 1
  unfolding of_int
  part_value n q = round_whole binary64 false n (omega (arith, part_lt))

-- a small number by its parts
by_parts : (P : Float → Type 0) → ((m : ℕ) (e : ℤ) → T (lt (fin false m e) large) → P (fin false m e)) → (x : Float) → Small x → P x
unfolding lt of_bits
by_parts P f nan h = absurd h.0
by_parts P f (inf true) h = absurd h.0
by_parts P f (inf false) h = absurd h.1
by_parts P f (fin true m e) h = absurd h.0
by_parts P f (fin false m e) h = f m e h.1

module _ (n : ℕ) where
  pub cut_lt : (x : Float) → Small x → n ≡ to_unsigned 64 x → n < 2 ^ 52
  cut_lt = by_parts (λ x. n ≡ to_unsigned 64 x → n < 2 ^ 52) (λ m e h q. omega (arith, part m e h, part_lt m e h))

  test_value : (m : ℕ) (e : ℤ) → T (lt (fin false m e) large) → n ≡ m * up e / down e → lt (of_int binary64 (pos n)) (fin false m e) ≡ ltb (n * down e) (m * up e)
  test_value m e h c = below_value (of_int binary64 (pos n)) n m e (part_value m e h n c)

  pub raised_whole : (x : Float) → Small x → n ≡ to_unsigned 64 x → lt (of_int binary64 (pos n)) x ≡ true → of_int binary64 (pos (n + 1)) ≡ ceil x
  unfolding of_int ceil
  raised_whole = by_parts (λ x. n ≡ to_unsigned 64 x → lt (of_int binary64 (pos n)) x ≡ true → of_int binary64 (pos (n + 1)) ≡ ceil x) (λ m e h q t.
      let c : n ≡ m * up e / down e = q ∙ part m e h in
      ap (λ (z : ℕ). round binary64 false z 1) (up_next (m * up e) (down e) n (down_pos e) c (is_above _ _ _ (test_value m e h c) t)))

  pub same_whole : (x : Float) → Small x → n ≡ to_unsigned 64 x → lt (of_int binary64 (pos n)) x ≡ false → of_int binary64 (pos n) ≡ ceil x
  unfolding of_int ceil
  same_whole = by_parts (λ x. n ≡ to_unsigned 64 x → lt (of_int binary64 (pos n)) x ≡ false → of_int binary64 (pos n) ≡ ceil x) (λ m e h q t.
      let c : n ≡ m * up e / down e = q ∙ part m e h in
      ap (λ (z : ℕ). round binary64 false z 1) (up_same (m * up e) (down e) n (down_pos e) c (not_above _ _ _ (test_value m e h c) t)))

-- ---- with a sign
opposite_units : (f : Format) (s : Bool) (q k : ℕ) → neg (units f s q k) ≡ units f (not s) q k
unfolding units neg odd
opposite_units f s q k = by (ltb (q * 2 ^ k) (2 ^ (low f + suc (emax f)))) q
  where
    by : (b : Bool) (q : ℕ) → neg (cond b (odd (suc (prec f)) s q k (low f)) (inf s)) ≡ cond b (odd (suc (prec f)) (not s) q k (low f)) (inf (not s))
    by true zero = refl
    by true (suc q) = refl
    by false q = refl

pub opposite_round : (f : Format) (s : Bool) (a c : ℕ) → neg (round f s a c) ≡ round f (not s) a c
opposite_round f s a c = rw round_is (opposite_units f s (kept (prec f) (a * 2 ^ low f) c) (drop (prec f) (a * 2 ^ low f) c) ∙ sym (round_is f (not s) a c))

pub cut_below : (x : Float) (n : ℕ) → T (lt x (of_bits binary64 0)) → T (lt (neg large) x) → n ≡ to_unsigned 64 (neg x) → neg (of_int binary64 (pos n)) ≡ ceil x
unfolding of_int ceil neg
cut_below nan n h k q = unfold lt in absurd h
cut_below (inf true) n h k q = unfold lt of_bits in absurd k
cut_below (inf false) n h k q = unfold lt of_bits in absurd h
cut_below (fin false m e) n h k q = absurd (subst T (lt_zero false m e) h)
cut_below (fin true m e) n h k q =
    opposite_round binary64 false n 1 ∙ ap (λ (z : ℕ). round binary64 true z 1) (q ∙ part m e (negated_small (fin true m e) h k).1)

-- ---- large numbers, and zeros, are whole already
own : (s : Bool) (m k : ℕ) → T (fits binary64 (fin s (suc m) (pos k))) → round binary64 s (suc m * 2 ^ k) 1 ≡ fin s (suc m) (pos k)
own s m k f =
    let c = suc m * 2 ^ k in
    let p = fits_parts s m (pos k) f in
    let g : c * 2 ^ 1074 ≡ suc m * 2 ^ (k + 1074) = mul_assoc (suc m) (2 ^ k) (2 ^ 1074) ∙ ap (λ (z : ℕ). suc m * z) (sym (pow-add 2 k 1074)) in
    whole_unique binary64 (round binary64 s c 1) (fin s (suc m) (pos k)) s c (round-fits binary64 s c 1) f
    (round_exact binary64 s c 1 (suc m) (k + 1074) (lit≤ tt) p.digits (lt_of_le_of_lt (le_of_eq (sym g)) (lt_of_lt_of_le (mul-lt-mul_of_pos_right p.finite (pow_pos 1074)) (lit≤ tt))) (g ∙ sym (mul-one _))) (refl, refl)

own_zero : (s : Bool) → round binary64 s 0 1 ≡ fin s zero (pos 0)
unfolding round units size
own_zero s = refl

whole_is : (s : Bool) (m k : ℕ) → T (fits binary64 (fin s m (pos k))) → fin s m (pos k) ≡ round binary64 s (m * 2 ^ k) 1
whole_is s zero k f = rw (plain_zero s (pos k) f, zero-mul) (sym (own_zero s))
whole_is s (suc m) k f = sym (own s m k f)

pub whole_ceil : (s : Bool) (m k : ℕ) → T (fits binary64 (fin s m (pos k))) → fin s m (pos k) ≡ ceil (fin s m (pos k))
unfolding ceil
whole_ceil true m k f = let q : m * 2 ^ k ≡ m * 2 ^ k / 1 = omega arith in whole_is true m k f ∙ ap (λ (z : ℕ). round binary64 true z 1) q
whole_ceil false m k f = let q : m * 2 ^ k ≡ (m * 2 ^ k + (1 - 1)) / 1 = omega arith in whole_is false m k f ∙ ap (λ (z : ℕ). round binary64 false z 1) q

-- a size of 2^52 leaves no place for digits after the point
no_fraction : (s : Bool) (m k : ℕ) → T (fits binary64 (fin s m (negsuc k))) → 2 ^ 52 * 2 ^ suc k ≤ m → ⊥
no_fraction s zero k f h = omega (arith, pow_pos (suc k))
no_fraction s (suc m) k f h = omega (arith, (fits_parts s m (negsuc k) f).digits, pow-succ' 2 k, pow_pos k)

module _ (s : Bool) (m j : ℕ) (f : T (fits binary64 (fin s m (negsuc j)))) where
  not_large : ltb (m * 1 * 1) (1 * 2 ^ 52 * 2 ^ suc j) ≡ false → ⊥
  not_large k = no_fraction s m j f (omega (arith, not_above (m * 1 * 1) (1 * 2 ^ 52 * 2 ^ suc j) _ refl k))

pub large_ceil : (x : Float) → T (fits binary64 x) → lt (of_bits binary64 0) x ≡ true → lt x large ≡ false → x ≡ ceil x
large_ceil nan f h k = unfold ceil in refl
large_ceil (inf s) f h k = unfold ceil in refl
large_ceil (fin true m e) f h k = never (sym (zero_lt true m e) ∙ h)
large_ceil (fin false m (pos j)) f h k = whole_ceil false m j f
large_ceil (fin false m (negsuc j)) f h k = unfold lt of_bits in absurd (not_large false m j f k)

pub low_ceil : (x : Float) → T (fits binary64 x) → lt x (of_bits binary64 0) ≡ true → lt (neg large) x ≡ false → x ≡ ceil x
low_ceil nan f h k = unfold ceil in refl
low_ceil (inf s) f h k = unfold ceil in refl
low_ceil (fin false m e) f h k = never (sym (lt_zero false m e) ∙ h)
low_ceil (fin true m (pos j)) f h k = whole_ceil true m j f
low_ceil (fin true m (negsuc j)) f h k = unfold lt of_bits neg in absurd (not_large true m j f k)

pub other_ceil : (x : Float) → T (fits binary64 x) → lt (of_bits binary64 0) x ≡ false → lt x (of_bits binary64 0) ≡ false → x ≡ ceil x
other_ceil nan f h k = unfold ceil in refl
other_ceil (inf s) f h k = unfold ceil in refl
other_ceil (fin s zero (pos j)) f h k = whole_ceil s zero j f
other_ceil (fin s zero (negsuc j)) f h k = absurd (no_zero (plain_zero s (negsuc j) f))
  where
    no_zero : negsuc j ≡ pos 0 → ⊥
    no_zero e = let z : ◌≡◌ {A = ℕ} 0 1 = cc in omega arith
other_ceil (fin true (suc m) e) f h k = never (sym k ∙ lt_zero true (suc m) e)
other_ceil (fin false (suc m) e) f h k = never (sym h ∙ zero_lt false (suc m) e)

pub ruleset wholes = (large_ceil, low_ceil, other_ceil)
