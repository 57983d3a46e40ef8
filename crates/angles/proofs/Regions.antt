-- Where an argument lies. One that is neither outside nor tiny is finite, and its size is from 2 ^ -26 to 2 ^ 10. Assumes nothing.
use Rattle.std.proofs.Common.{◌≡◌, ℕ, zero, suc, ◌+◌, ◌*◌, ◌^◌, ◌<◌, ◌≤◌, Bool, true, false, cond, ◌&&◌, T, ltb, ℤ, pos, negsuc, sym, refl, ap, ◌∙◌, ap₂, zero-lt-suc, zero-mul, arith, lt→ltb, ltb-false, ltb-true, lt-ltb}
use mathlib.Core.Bool.{false≢true}
use lib.Ieee.{Float, nan, inf, fin, binary64, up, down, of_bits, neg, lt, le, eq}
use lib.Ieee.Fits.{down_pos}
use lib.Ieee.Positive.{positive, cross→le}
use Rattle.angles.specs.declared.Zone.{Zone}
use Rattle.angles.specs.declared.Zone.TheVariants as Zone
use Rattle.angles.specs.Angles as Angles
use Rattle.angles.specs.Angles.{signed, scaled, size_of, in_range, tiny, region_of}
use Rattle.angles.proofs.Bits.{least, most}
use Rattle.angles.proofs.Tests.{both_true, yes, lt_or_eq, lt_or_eq', left_false, right_false}

-- ---- the constants

most_is : Angles.most ≡ most
unfolding of_bits
most_is = refl

least_is : Angles.least ≡ least
unfolding of_bits
least_is = refl

zero_is : of_bits binary64 0 ≡ fin false 0 (pos 0)
unfolding of_bits
zero_is = refl

-- ---- the three regions

abbrev zone : Bool → Bool → Zone
zone a b = cond a (cond b Zone.Tiny Zone.Inside) Zone.Outside

module _ (x : Float) (a b : Bool) (p : a ≡ in_range x) where
  pub is_outside : a ≡ false → Zone.Outside ≡ region_of x
  unfolding region_of
  is_outside e = ap (λ (c : Bool). zone c (tiny x)) (sym e ∙ p)

  pub is_tiny : b ≡ tiny x → a ≡ true → b ≡ true → Zone.Tiny ≡ region_of x
  unfolding region_of
  is_tiny q e f = ap₂ zone (sym e ∙ p) (sym f ∙ q)

  pub is_inside : b ≡ tiny x → a ≡ true → b ≡ false → Zone.Inside ≡ region_of x
  unfolding region_of
  is_inside q e f = ap₂ zone (sym e ∙ p) (sym f ∙ q)

inside_by : (a b : Bool) → zone a b ≡ Zone.Inside → (a ≡ true) × (b ≡ false)
inside_by true true e = let z : ◌≡◌ {A = ℕ} 0 1 = cc in absurd (no z)
  where
    no : ◌≡◌ {A = ℕ} 0 1 → ⊥
    no z = omega arith
inside_by true false e = (refl, refl)
inside_by false b e = let z : ◌≡◌ {A = ℕ} 0 1 = cc in absurd (no z)
  where
    no : ◌≡◌ {A = ℕ} 0 1 → ⊥
    no z = omega arith

pub record Inside (x : Float) : Type 0 where
  pub low : le (fin true 1 (pos 10)) x ≡ true
  pub high : le x most ≡ true
  pub large : lt (fin true 1 (negsuc 25)) x && lt x least ≡ false

pub inside : (x : Float) → region_of x ≡ Zone.Inside → Inside x
unfolding region_of in_range tiny neg
inside x e =
    let q = inside_by (in_range x) (tiny x) e in
    let r = both_true (le (neg Angles.most) x) (le x Angles.most) q.0 in
    record {
      low = ap (λ (z : Float). le (neg z) x) (sym most_is) ∙ r.0;
      high = ap (le x) (sym most_is) ∙ r.1;
      large = (λ i. lt (neg (sym least_is i)) x && lt x (sym least_is i)) ∙ q.1;
    }

-- ---- the size

abbrev Sized : Float → Type 0
Sized y = T (le least y) × T (le y most)

some_digits : (m u d : ℕ) → 0 < d → d ≤ m * u * 2 ^ 26 → 0 < m
some_digits zero u d D h = absurd (go (zero * u) (zero-mul u) h)
  where
    go : (z : ℕ) → z ≡ 0 → d ≤ z * 2 ^ 26 → ⊥
    go z e h = omega arith
some_digits (suc m) u d D h = zero-lt-suc m

sized : (m : ℕ) (e : ℤ) → down e ≤ m * up e * 2 ^ 26 → m * up e ≤ 2 ^ 10 * down e → Sized (fin false m e)
sized m e l h =
    let p : T (positive (fin false m e)) = lt→ltb 0 m (some_digits m (up e) (down e) (down_pos e) l) in
    (cross→le least (fin false m e) tt p (tidy (down e) (m * up e * 2 ^ 26) l), cross→le (fin false m e) most p tt (tidy' (m * up e) (2 ^ 10 * down e) h))
  where
    tidy : (a b : ℕ) → a ≤ b → 1 * a ≤ b
    tidy a b h = omega arith

    tidy' : (a b : ℕ) → a ≤ b → a * 1 ≤ b
    tidy' a b h = omega arith

tidy_low : (n d : ℕ) → 1 * d ≤ n * 2 ^ 26 → d ≤ n * 2 ^ 26
tidy_low n d h = omega arith

tidy_high : (n d : ℕ) → n * 1 ≤ 1024 * d → n ≤ 2 ^ 10 * d
tidy_high n d h = omega arith

-- ---- not below zero
abbrev Above : Float → Type 0
Above x = Sized x × (scaled x ≡ signed false (size_of x))

above' : (x : Float) → Inside x → lt x (fin false 0 (pos 0)) ≡ false → Above x
unfolding le lt eq scaled
above' nan i m = absurd (false≢true i.low)
above' (inf true) i m = absurd (false≢true i.low)
above' (inf false) i m = absurd (false≢true i.high)
above' (fin true n e) i m =
    absurd
    (go (n * up e) (down e) (down_pos e)
    (left_false (ltb (n * up e * 2 ^ 26) (1 * 1 * down e)) (ltb 0 (n * up e * 2 ^ 26 + 1 * 1 * down e)) i.large (more (n * up e * 2 ^ 26) (down e) (down_pos e))) m)
  where
    more : (a d : ℕ) → 0 < d → ltb 0 (a + 1 * 1 * d) ≡ true
    more a d D = lt-ltb 0 (a + 1 * 1 * d) (omega arith)

    go : (a d : ℕ) → 0 < d → ltb (a * 2 ^ 26) (1 * 1 * d) ≡ false → ltb 0 (a * 1 + 0 * 1 * d) ≡ false → ⊥
    go a d D h k = omega (arith, ltb-false (a * 2 ^ 26) (1 * 1 * d) h, ltb-false 0 (a * 1 + 0 * 1 * d) k)
above' (fin false n e) i m =
    let l = right_false (ltb 0 (1 * 1 * down e + n * up e * 2 ^ 26)) (ltb (n * up e * 2 ^ 26) (1 * 1 * down e)) i.large (lt-ltb 0 (1 * 1 * down e + n * up e * 2 ^ 26) (pos_sum (n * up e * 2 ^ 26) (down e) (down_pos e))) in
    (sized n e (tidy_low (n * up e) (down e) (ltb-false (n * up e * 2 ^ 26) (1 * down e) l)) (tidy_high (n * up e) (down e) (lt_or_eq (n * up e * 1) (1024 * down e) true (yes i.high))), refl)
  where
    pos_sum : (a d : ℕ) → 0 < d → 0 < 1 * 1 * d + a
    pos_sum a d D = omega arith

pub above : (x : Float) → region_of x ≡ Zone.Inside → lt x (of_bits binary64 0) ≡ false → Above x
above x e m = above' x (inside x e) (ap (lt x) (sym zero_is) ∙ m)

-- ---- below zero
abbrev Below : Float → Type 0
Below x = Sized (neg x) × (scaled x ≡ signed true (size_of (neg x)))

below' : (x : Float) → Inside x → lt x (fin false 0 (pos 0)) ≡ true → Below x
unfolding le lt eq scaled neg
below' nan i m = absurd (false≢true i.low)
below' (inf true) i m = absurd (false≢true i.low)
below' (inf false) i m = absurd (false≢true i.high)
below' (fin false n e) i m = absurd (go (n * up e) (down e) (ltb-true (n * up e * 1) (0 * 1 * down e) m))
  where
    go : (a d : ℕ) → a * 1 < 0 * 1 * d → ⊥
    go a d h = omega arith
below' (fin true n e) i m =
    let l = left_false (ltb (n * up e * 2 ^ 26) (1 * 1 * down e)) (ltb 0 (n * up e * 2 ^ 26 + 1 * 1 * down e)) i.large (lt-ltb 0 (n * up e * 2 ^ 26 + 1 * 1 * down e) (pos_sum (n * up e * 2 ^ 26) (down e) (down_pos e))) in
    (sized n e (tidy_low (n * up e) (down e) (ltb-false (n * up e * 2 ^ 26) (1 * down e) l)) (tidy_high (n * up e) (down e) (lt_or_eq' (n * up e * 1) (1024 * down e) true (yes i.low))), refl)
  where
    pos_sum : (a d : ℕ) → 0 < d → 0 < a + 1 * 1 * d
    pos_sum a d D = omega arith

pub under_zero : (x : Float) → region_of x ≡ Zone.Inside → lt x (of_bits binary64 0) ≡ true → Below x
under_zero x e m = below' x (inside x e) (ap (lt x) (sym zero_is) ∙ m)
