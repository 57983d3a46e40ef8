-- The laws of `lt` and `le` on the values that a format holds: each goes over to the places, and between is `omega`'s. Assumes nothing.
use Rattle.std.specs.Prelude.{◌≡◌, refl, ℕ, zero, suc, ◌+◌, ◌-◌, ◌≤◌, ◌<◌, max, true, false, not, ℤ, T, Float}
use Rattle.std.proofs.Common.{arith, ltb→lt, lt→ltb, leb→le, le→leb, nltb→le}
use Rattle.std.proofs.Math.Dec.{nleb→lt}
use Rattle.std.proofs.Math.Arith.{le→nltb, lt→nleb}
use Rattle.std.specs.Float.{nan, inf, fin, Format}
use Rattle.std.specs.Float.Ieee.{lt, le, neg, fits}
use Rattle.std.specs.Float.Ieee.Fits.{neg-fits}
use Rattle.float.specs.Ops.{number, abs}
use Rattle.float_laws.specs.Numbers.{lt_l, lt_r, le_l, le_r}
use Rattle.float_laws.specs.Place.{mag, mid, place, lt_is, le_is, mag_inf, mag_lt}

-- a number that the format holds
pub record Held (f : Format) (x : Float) : Type 0 where
  pub fit : T (fits f x)
  pub num : T (number x)

pub held : {f : Format} {x : Float} → T (fits f x) → T (number x) → Held f x
held p q = record { fit = p; num = q }

-- ---- over to the places, and back
module _ (f : Format) (x y : Float) (p : Held f x) (q : Held f y) where
  pub lt_up : T (lt x y) → place f x < place f y
  lt_up t = ltb→lt (place f x) (place f y) (rw (lt_is f x y p.fit q.fit p.num q.num) at t)

  pub up_lt : place f x < place f y → T (lt x y)
  up_lt h = rw (lt_is f x y p.fit q.fit p.num q.num) (lt→ltb (place f x) (place f y) h)

  pub nlt_up : T (not (lt x y)) → place f y ≤ place f x
  nlt_up t = nltb→le (place f x) (place f y) (rw (lt_is f x y p.fit q.fit p.num q.num) at t)

  pub up_nlt : place f y ≤ place f x → T (not (lt x y))
  up_nlt h = rw (lt_is f x y p.fit q.fit p.num q.num) (le→nltb (place f x) (place f y) h)

  pub le_up : T (le x y) → place f x ≤ place f y
  le_up t = leb→le (place f x) (place f y) (rw (le_is f x y p.fit q.fit p.num q.num) at t)

  pub up_le : place f x ≤ place f y → T (le x y)
  up_le h = rw (le_is f x y p.fit q.fit p.num q.num) (le→leb (place f x) (place f y) h)

  pub nle_up : T (not (le x y)) → place f y < place f x
  nle_up t = nleb→lt (place f x) (place f y) (rw (le_is f x y p.fit q.fit p.num q.num) at t)

  pub up_nle : place f y < place f x → T (not (le x y))
  up_nle h = rw (le_is f x y p.fit q.fit p.num q.num) (lt→nleb (place f x) (place f y) h)

-- not above, and no NaN, is at most
pub not_above : (f : Format) (x t : Float) → Held f x → Held f t → T (not (lt t x)) → T (le x t)
not_above f x t p q h = up_le f x t p q (nlt_up f t x q p h)

-- not at most, and no NaN, is above
pub not_most : (f : Format) (x t : Float) → Held f x → Held f t → T (not (le x t)) → T (lt t x)
not_most f x t p q h = up_lt f t x q p (nle_up f x t p q h)

-- ---- transitive: what compares is a number, so only `fits` is asked
module _ (f : Format) (x y z : Float) (p : T (fits f x)) (q : T (fits f y)) (r : T (fits f z)) where
  pub lt_trans : T (lt x y) → T (lt y z) → T (lt x z)
  lt_trans h k =
      let P = held p (lt_l x y h) in let Q = held q (lt_r x y h) in let R = held r (lt_r y z k) in
      up_lt f x z P R (omega (arith, lt_up f x y P Q h, lt_up f y z Q R k))

  pub lt_le_trans : T (lt x y) → T (le y z) → T (lt x z)
  lt_le_trans h k =
      let P = held p (lt_l x y h) in let Q = held q (lt_r x y h) in let R = held r (le_r y z k) in
      up_lt f x z P R (omega (arith, lt_up f x y P Q h, le_up f y z Q R k))

  pub le_lt_trans : T (le x y) → T (lt y z) → T (lt x z)
  le_lt_trans h k =
      let P = held p (le_l x y h) in let Q = held q (le_r x y h) in let R = held r (lt_r y z k) in
      up_lt f x z P R (omega (arith, le_up f x y P Q h, lt_up f y z Q R k))

  pub le_trans : T (le x y) → T (le y z) → T (le x z)
  le_trans h k =
      let P = held p (le_l x y h) in let Q = held q (le_r x y h) in let R = held r (le_r y z k) in
      up_le f x z P R (omega (arith, le_up f x y P Q h, le_up f y z Q R k))

-- nothing is below itself
pub lt_irrefl : (f : Format) (x : Float) → T (fits f x) → T (lt x x) → ⊥
lt_irrefl f x p h = let P = held p (lt_l x x h) in omega (arith, lt_up f x x P P h)

-- below is at most
pub lt_le : (f : Format) (x y : Float) → T (fits f x) → T (fits f y) → T (lt x y) → T (le x y)
lt_le f x y p q h = let P = held p (lt_l x y h) in let Q = held q (lt_r x y h) in up_le f x y P Q (omega (arith, lt_up f x y P Q h))

pub le_refl : (f : Format) (x : Float) → Held f x → T (le x x)
le_refl f x p = up_le f x x p p (omega arith)

-- ---- the sign changed, and dropped
pub neg_neg : (x : Float) → neg (neg x) ≡ x
unfolding neg
neg_neg nan = refl
neg_neg (inf true) = refl
neg_neg (inf false) = refl
neg_neg (fin true m e) = refl
neg_neg (fin false m e) = refl

pub neg_number : (x : Float) → T (number x) → T (number (neg x))
unfolding neg
neg_number nan t = t
neg_number (inf s) t = tt
neg_number (fin s m e) t = tt

pub neg_held : {f : Format} {x : Float} → Held f x → Held f (neg x)
neg_held {f} {x} p = held (neg-fits f x p.fit) (neg_number x p.num)

pub abs_number : (x : Float) → T (number x) → T (number (abs x))
unfolding abs
abs_number nan t = t
abs_number (inf s) t = tt
abs_number (fin s m e) t = tt

pub abs_fits : (f : Format) (x : Float) → T (fits f x) → T (fits f (abs x))
unfolding abs fits
abs_fits f nan h = tt
abs_fits f (inf s) h = tt
abs_fits f (fin s zero e) h = h
abs_fits f (fin s (suc m) e) h = h

pub abs_held : {f : Format} {x : Float} → Held f x → Held f (abs x)
abs_held {f} {x} p = held (abs_fits f x p.fit) (abs_number x p.num)

-- the size has no sign
pub mag_neg : (f : Format) (x : Float) → mag f (neg x) ≡ mag f x
unfolding neg mag
mag_neg f nan = refl
mag_neg f (inf s) = refl
mag_neg f (fin s m e) = refl

pub mag_abs : (f : Format) (x : Float) → mag f (abs x) ≡ mag f x
unfolding abs mag
mag_abs f nan = refl
mag_abs f (inf s) = refl
mag_abs f (fin s m e) = refl

mag_sign : (f : Format) (m : ℕ) (e : ℤ) → mag f (fin true m e) ≡ mag f (fin false m e)
unfolding mag
mag_sign f m e = refl

-- x and -x lie as far from zero, on its two sides
pub place_neg : (f : Format) (x : Float) → Held f x → place f (neg x) + place f x ≡ mid f + mid f
unfolding neg place
place_neg f nan p = absurd p.num
place_neg f (inf true) p = omega (arith, mag_inf f true, mag_inf f false)
place_neg f (inf false) p = omega (arith, mag_inf f true, mag_inf f false)
place_neg f (fin true m e) p = omega (arith, mag_lt f true e m p.fit, mag_sign f m e)
place_neg f (fin false m e) p = omega (arith, mag_lt f false e m p.fit, mag_sign f m e)

-- |x| is the upper one of x and -x
pub place_abs : (f : Format) (x : Float) → Held f x → place f (abs x) ≡ max (place f x) (mid f + mid f - place f x)
unfolding abs place
place_abs f nan p = absurd p.num
place_abs f (inf true) p = omega (arith, mag_inf f true, mag_inf f false)
place_abs f (inf false) p = omega (arith, mag_inf f true, mag_inf f false)
place_abs f (fin true m e) p = omega (arith, mag_lt f true e m p.fit, mag_sign f m e)
place_abs f (fin false m e) p = omega (arith, mag_lt f false e m p.fit, mag_sign f m e)
