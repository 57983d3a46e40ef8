-- No NaN, backwards: where a result is a number, so are the operands, since a NaN goes through sums, differences, products, quotients, signs, sizes, roots and clamps, and every comparison
-- with one fails. `search numbers` carries that from a result to any operand of the expression. Assumes nothing.
use Rattle.std.specs.Prelude.{◌≡◌, Bool, false, cond, ℕ, ℤ, T, Float}
use Rattle.std.proofs.Math.Path.{refl}
use Rattle.std.proofs.Common.{ap}
use Rattle.std.specs.Float.{nan, inf, fin, Format}
use Rattle.std.specs.Float.Ieee.{add, sub, mul, div, neg, lt, le, eq}
use Rattle.float.specs.Ops.{number, abs, clamp}
use Rattle.float.specs.Sqrt.{sqrt}

-- a test that fails at a NaN passes only at a number
only : (E : Float → Bool) → E nan ≡ false → (x : Float) → T (E x) → T (number x)
only E h nan t = rw h at t
only E h (inf s) t = tt
only E h (fin s m e) t = tt

-- a test that fails at every value
never : (E : Float → Bool) → E nan ≡ false → ((s : Bool) → E (inf s) ≡ false) → ((s : Bool) (m : ℕ) (e : ℤ) → E (fin s m e) ≡ false) → (x : Float) → E x ≡ false
never E a b c nan = a
never E a b c (inf s) = b s
never E a b c (fin s m e) = c s m e

-- nothing is below a NaN
pub lt_nan_r : (x : Float) → lt x nan ≡ false
unfolding lt
lt_nan_r = never (λ x. lt x nan) refl (λ s. refl) (λ s m e. refl)

-- ---- the operations: l says it of the first operand, r of the second
module _ (f : Format) (x y : Float) where
  pub add_l : T (number (add f x y)) → T (number x)
  unfolding add
  add_l = only (λ z. number (add f z y)) refl x

  pub add_r : T (number (add f x y)) → T (number y)
  unfolding add
  add_r = only (λ z. number (add f x z)) (never (λ x. number (add f x nan)) refl (λ s. refl) (λ s m e. refl) x) y

  pub sub_l : T (number (sub f x y)) → T (number x)
  unfolding sub
  sub_l = only (λ z. number (sub f z y)) refl x

  pub sub_r : T (number (sub f x y)) → T (number y)
  unfolding sub
  sub_r = only (λ z. number (sub f x z)) (never (λ x. number (sub f x nan)) refl (λ s. refl) (λ s m e. refl) x) y

  pub mul_l : T (number (mul f x y)) → T (number x)
  unfolding mul
  mul_l = only (λ z. number (mul f z y)) refl x

  pub mul_r : T (number (mul f x y)) → T (number y)
  unfolding mul
  mul_r = only (λ z. number (mul f x z)) (never (λ x. number (mul f x nan)) refl (λ s. refl) (λ s m e. refl) x) y

  pub div_l : T (number (div f x y)) → T (number x)
  unfolding div
  div_l = only (λ z. number (div f z y)) refl x

  pub div_r : T (number (div f x y)) → T (number y)
  unfolding div
  div_r = only (λ z. number (div f x z)) (never (λ x. number (div f x nan)) refl (λ s. refl) (λ s m e. refl) x) y

pub neg_n : (x : Float) → T (number (neg x)) → T (number x)
unfolding neg
neg_n = only (λ z. number (neg z)) refl

pub abs_n : (x : Float) → T (number (abs x)) → T (number x)
unfolding abs
abs_n = only (λ z. number (abs z)) refl

pub sqrt_n : (f : Format) (x : Float) → T (number (sqrt f x)) → T (number x)
unfolding sqrt
sqrt_n f = only (λ z. number (sqrt f z)) refl

pub clamp_n : (lo hi x : Float) → T (number (clamp lo hi x)) → T (number x)
unfolding clamp lt
clamp_n lo hi = only (λ z. number (clamp lo hi z)) (ap (λ (b : Bool). number (cond b hi nan)) (lt_nan_r hi))

-- ---- the comparisons
module _ (x y : Float) where
  pub lt_l : T (lt x y) → T (number x)
  unfolding lt
  lt_l = only (λ z. lt z y) refl x

  pub lt_r : T (lt x y) → T (number y)
  lt_r = only (λ z. lt x z) (lt_nan_r x) y

  pub eq_l : T (eq x y) → T (number x)
  unfolding eq
  eq_l = only (λ z. eq z y) refl x

  pub eq_r : T (eq x y) → T (number y)
  unfolding eq
  eq_r = only (λ z. eq x z) (never (λ x. eq x nan) refl (λ s. refl) (λ s m e. refl) x) y

  pub le_l : T (le x y) → T (number x)
  unfolding le lt eq
  le_l = only (λ z. le z y) refl x

  pub le_r : T (le x y) → T (number y)
  unfolding le lt eq
  le_r = only (λ z. le x z) (never (λ x. le x nan) refl (λ s. refl) (λ s m e. refl) x) y

-- one list for `search`
pub ruleset numbers = (add_l, add_r, sub_l, sub_r, mul_l, mul_r, div_l, div_r, neg_n, abs_n, sqrt_n, clamp_n, lt_l, lt_r, eq_l, eq_r, le_l, le_r)
