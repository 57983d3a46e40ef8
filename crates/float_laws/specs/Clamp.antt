-- `clamp lo hi x`, by the places: within its limits, the same done twice, odd between -l and l, and nested. Assumes nothing.
use Rattle.std.specs.Prelude.{◌≡◌, ◌≤◌, ◌<◌, max, min, ◌↔◌, Bool, true, false, not, cond, T, Float}
use Rattle.std.proofs.Common.{sym, ap, ◌∙◌, arith}
use Rattle.std.specs.Float.{Format}
use Rattle.std.specs.Float.Ieee.{lt, le, neg, fits}
use Rattle.std.specs.Float.Ieee.Bits.{is_true, is_false}
use Rattle.std.specs.Float.Ieee.Fits.{cond-fits}
use Rattle.float.specs.Ops.{number, abs, clamp}
use Rattle.float_laws.specs.Numbers.{clamp_n}
use Rattle.float_laws.specs.Place.{mid, place}
use Rattle.float_laws.specs.Order.{Held, held, lt_up, nlt_up, up_lt, up_nlt, up_le, le_up, neg_held, neg_neg, abs_held, place_neg, place_abs}

-- a test's two outcomes, each with what it says
pub test : {X : Type 0} (b : Bool) → (T b → X) → (T (not b) → X) → X
test true p q = p tt
test false p q = q tt

-- one of two values that fit fits
pub clamp_fits : (f : Format) (lo hi x : Float) → T (fits f lo) → T (fits f hi) → T (fits f x) → T (fits f (clamp lo hi x))
unfolding clamp
clamp_fits f lo hi x a b c = cond-fits f (lt x lo) lo (cond (lt hi x) hi x) a (cond-fits f (lt hi x) hi x b c)

either : {f : Format} (b : Bool) (x y : Float) → Held f x → Held f y → Held f (cond b x y)
either true x y p q = p
either false x y p q = q

module _ (f : Format) (lo hi : Float) (L : Held f lo) (H : Held f hi) where
  -- the clamp of a number is a number of the format
  pub clamp_held : (x : Float) → Held f x → Held f (clamp lo hi x)
  unfolding clamp
  clamp_held x p = either (lt x lo) lo (cond (lt hi x) hi x) L (either (lt hi x) hi x H p)

  -- the result is a NaN only where x is one
  pub clamp_iff : (x : Float) → T (fits f x) → T (number x) ↔ T (number (clamp lo hi x))
  clamp_iff x g = ((λ t. (clamp_held x (held g t)).num), clamp_n lo hi x)

  -- the three outcomes
  pub clamp_low : (x : Float) → Held f x → place f x < place f lo → clamp lo hi x ≡ lo
  unfolding clamp
  clamp_low x p h = rw (is_true (lt x lo) (up_lt f x lo p L h))

  pub clamp_high : (x : Float) → Held f x → place f lo ≤ place f hi → place f hi < place f x → clamp lo hi x ≡ hi
  unfolding clamp
  clamp_high x p o h = rw (is_false (lt x lo) (up_nlt f x lo p L (omega arith)), is_true (lt hi x) (up_lt f hi x H p h))

  pub clamp_same : (x : Float) → Held f x → place f lo ≤ place f x → place f x ≤ place f hi → clamp lo hi x ≡ x
  unfolding clamp
  clamp_same x p h k = rw (is_false (lt x lo) (up_nlt f x lo p L h), is_false (lt hi x) (up_nlt f hi x H p k))

  -- by cases
  by_place : {X : Type 0} (x : Float) → Held f x → (place f x < place f lo → X) → (place f lo ≤ place f x → place f hi < place f x → X) → (place f lo ≤ place f x → place f x ≤ place f hi → X) → X
  by_place x p a b c = test (lt x lo) (λ t. a (lt_up f x lo p L t)) (λ t. let h = nlt_up f x lo p L t in test (lt hi x) (λ u. b h (lt_up f hi x H p u)) (λ u. c h (nlt_up f hi x H p u)))

  -- the place of the result: within the limits, and x's own where x is within
  pub clamp_place : (x : Float) → Held f x → place f lo ≤ place f hi → place f (clamp lo hi x) ≡ max (place f lo) (min (place f hi) (place f x))
  clamp_place x p o = by_place x p (λ h. rw (clamp_low x p h) (omega arith)) (λ h k. rw (clamp_high x p o k) (omega arith)) (λ h k. rw (clamp_same x p h k) (omega arith))

  -- a second clamp changes nothing
  pub clamp_idem : (x : Float) → Held f x → place f lo ≤ place f hi → clamp lo hi (clamp lo hi x) ≡ clamp lo hi x
  clamp_idem x p o = let c = clamp_place x p o in clamp_same (clamp lo hi x) (clamp_held x p) (omega arith) (omega arith)

  -- it keeps the order
  pub clamp_mono : (x y : Float) → Held f x → Held f y → place f lo ≤ place f hi → T (le x y) → T (le (clamp lo hi x) (clamp lo hi y))
  clamp_mono x y p q o h =
      up_le f (clamp lo hi x) (clamp lo hi y) (clamp_held x p) (clamp_held y q)
      (omega (arith, le_up f x y p q h, clamp_place x p o, clamp_place y q o))

-- ---- between -l and l, for an l that is not below zero
module _ (f : Format) (l : Float) (L : Held f l) (over : mid f ≤ place f l) where
  N : Held f (neg l)
  N = neg_held L

  span : place f (neg l) ≤ place f l
  span = omega (arith, place_neg f l L)

  -- it is a number of the format
  pub sym_held : (x : Float) → Held f x → Held f (clamp (neg l) l x)
  sym_held x p = clamp_held f (neg l) l N L x p

  -- at most l in size
  pub sym_abs : (x : Float) → Held f x → T (le (abs (clamp (neg l) l x)) l)
  sym_abs x p =
      let c = clamp (neg l) l x in
      let C = sym_held x p in
      up_le f (abs c) l (abs_held C) L (omega (arith, place_abs f c C, clamp_place f (neg l) l N L x p span, place_neg f l L))

  -- a second clamp changes nothing
  pub sym_idem : (x : Float) → Held f x → clamp (neg l) l (clamp (neg l) l x) ≡ clamp (neg l) l x
  sym_idem x p = clamp_idem f (neg l) l N L x p span

  -- the clamp of -x is minus that of x
  pub sym_neg : (x : Float) → Held f x → clamp (neg l) l (neg x) ≡ neg (clamp (neg l) l x)
  sym_neg x p =
      let X = neg_held p in
      let a = place_neg f l L in
      let b = place_neg f x p in
      by_place f (neg l) l N L x p
      (λ h. clamp_high f (neg l) l N L (neg x) X span (omega arith) ∙ sym (neg_neg l) ∙ ap neg (sym (clamp_low f (neg l) l N L x p h)))
      (λ h k. clamp_low f (neg l) l N L (neg x) X (omega arith) ∙ ap neg (sym (clamp_high f (neg l) l N L x p span k)))
      (λ h k. clamp_same f (neg l) l N L (neg x) X (omega arith) (omega arith) ∙ ap neg (sym (clamp_same f (neg l) l N L x p h k)))

-- to l and then to a k that is no smaller: the second does nothing
pub clamp_wider : (f : Format) (l k x : Float) (L : Held f l) (K : Held f k) → Held f x → mid f ≤ place f l → place f l ≤ place f k → clamp (neg k) k (clamp (neg l) l x) ≡ clamp (neg l) l x
clamp_wider f l k x L K p o h =
    let a = place_neg f l L in
    let b = place_neg f k K in
    let c = clamp_place f (neg l) l (neg_held L) L x p (omega arith) in
    clamp_same f (neg k) k (neg_held K) K (clamp (neg l) l x) (sym_held f l L o x p) (omega arith) (omega arith)

-- to l and then to a smaller k: as to k at once
pub clamp_narrower : (f : Format) (l k x : Float) (L : Held f l) (K : Held f k) → Held f x → mid f ≤ place f k → place f k < place f l → clamp (neg k) k (clamp (neg l) l x) ≡ clamp (neg k) k x
clamp_narrower f l k x L K p o h =
    let N = neg_held L in
    let M = neg_held K in
    let a = place_neg f l L in
    let b = place_neg f k K in
    let sl : place f (neg l) ≤ place f l = omega arith in
    let sk : place f (neg k) ≤ place f k = omega arith in
    by_place f (neg l) l N L x p
    (λ g. ap (clamp (neg k) k) (clamp_low f (neg l) l N L x p g) ∙ clamp_low f (neg k) k M K (neg l) N (omega arith) ∙ sym (clamp_low f (neg k) k M K x p (omega arith)))
    (λ g j. ap (clamp (neg k) k) (clamp_high f (neg l) l N L x p sl j) ∙ clamp_high f (neg k) k M K l L sk h ∙ sym (clamp_high f (neg k) k M K x p sk (omega arith)))
    (λ g j. ap (clamp (neg k) k) (clamp_same f (neg l) l N L x p g j))
