-- The outcomes of the helpers by the tests that the code makes: one lemma for each arm. Assumes nothing.
use Rattle.std.proofs.Common.{◌≡◌, ℕ, zero, suc, ◌+◌, ◌*◌, ◌^◌, ◌<◌, Bool, true, false, cond, not, ◌&&◌, ◌||◌, T, eqb, ℤ, pos, negsuc, sym, refl, ap, ◌∙◌, subst, zero-lt-suc, mul-pos, one-mul, zero-mul, mul-one, arith, eqb→eq, lt→ltb}
use mathlib.Core.Bool.{beq}
use native.Mathlib.Nat.{pow-succ'}
use lib.Arith.{le→nltb}
use lib.Ieee.{Float, nan, inf, fin, binary64, up, down, lt, eq, ne, neg, is_nan, fits, of_bits}
use lib.Ieee.Scale.{finite}
use lib.Ieee.Bits.{is_true, is_false}
use lib.Ieee.Compare.{differs_from_itself, nan_differs}
use lib.Ieee.Fits.{up_pos}
use Rattle.wide.proofs.Patterns.{never}
use Rattle.float.specs.Ops.{abs, max, min, clamp}

-- ---- a finite number against 0
abbrev some : ℕ → Bool
some zero = false
some (suc m) = true

part_pos : (m : ℕ) (e : ℤ) → 0 < suc m * up e * 1
part_pos m e = mul-pos (mul-pos (zero-lt-suc m) (up_pos e)) (zero-lt-suc 0)

part_none : (e : ℤ) → 0 * up e * 1 ≡ 0
part_none e = ap (λ (y : ℕ). y * 1) (zero-mul (up e))

pub lt_zero : (s : Bool) (m : ℕ) (e : ℤ) → lt (fin s m e) (of_bits binary64 0) ≡ s && some m
unfolding lt of_bits
lt_zero true zero e = rw (part_none e, zero-mul (down e))
lt_zero true (suc m) e = is_true _ (lt→ltb 0 (suc m * up e * 1 + 0 * 1 * down e) (omega (arith, part_pos m e)))
lt_zero false m e = is_false _ (le→nltb (m * up e * 1) (0 * 1 * down e) (omega (arith, zero-mul (down e))))

pub zero_lt : (s : Bool) (m : ℕ) (e : ℤ) → lt (of_bits binary64 0) (fin s m e) ≡ not s && some m
unfolding lt of_bits
zero_lt true m e = refl
zero_lt false zero e = rw (part_none e, zero-mul (down e))
zero_lt false (suc m) e = is_true _ (lt→ltb (0 * 1 * down e) (suc m * up e * 1) (omega (arith, zero-mul (down e), part_pos m e)))

pub eq_zero : (s : Bool) (m : ℕ) (e : ℤ) → eq (fin s m e) (of_bits binary64 0) ≡ not (some m)
unfolding eq of_bits
eq_zero true zero e = rw (part_none e, zero-mul (down e))
eq_zero false zero e = rw (part_none e, zero-mul (down e))
eq_zero s (suc m) e = off (eqb (suc m * up e * 1) (0 * 1 * down e)) (beq s false || eqb (suc m * up e * 1) 0) (λ t. omega (arith, eqb→eq (suc m * up e * 1) (0 * 1 * down e) t, part_pos m e, zero-mul (down e)))
  where
    off : (a b : Bool) → (T a → ⊥) → a && b ≡ false
    off true b h = absurd (h tt)
    off false b h = refl

-- a zero that fits has the exponent 0
flat : (e : ℤ) → up e * down e ≡ 1 → e ≡ pos 0
flat (pos zero) h = refl
flat (pos (suc k)) h = absurd (even (2 ^ k) (sym (pow-succ' 2 k) ∙ sym (mul-one (2 ^ suc k)) ∙ h))
  where
    even : (p : ℕ) → 2 * p ≡ 1 → ⊥
    even p e = omega arith
flat (negsuc k) h = absurd (even (2 ^ k) (sym (pow-succ' 2 k) ∙ sym (one-mul (2 ^ suc k)) ∙ h))
  where
    even : (p : ℕ) → 2 * p ≡ 1 → ⊥
    even p e = omega arith

pub plain_zero : (s : Bool) (e : ℤ) → T (fits binary64 (fin s zero e)) → e ≡ pos 0
unfolding fits
plain_zero s e t = flat e (eqb→eq (up e * down e) 1 t)

-- ---- abs
pub abs_below : (x : Float) → lt x (of_bits binary64 0) ≡ true → neg x ≡ abs x
unfolding abs neg
abs_below nan h = refl
abs_below (inf true) h = refl
abs_below (inf false) h = unfold lt of_bits in never h
abs_below (fin true m e) h = refl
abs_below (fin false m e) h = never (sym (lt_zero false m e) ∙ h)

pub abs_zero : (x : Float) → T (fits binary64 x) → eq x (of_bits binary64 0) ≡ true → of_bits binary64 0 ≡ abs x
unfolding abs of_bits
abs_zero nan f h = unfold eq in never h
abs_zero (inf s) f h = unfold eq in never h
abs_zero (fin s zero e) f h = ap (fin false zero) (sym (plain_zero s e f))
abs_zero (fin s (suc m) e) f h = never (sym (eq_zero s (suc m) e) ∙ h)

pub abs_above : (x : Float) → lt x (of_bits binary64 0) ≡ false → eq x (of_bits binary64 0) ≡ false → x ≡ abs x
unfolding abs
abs_above nan h k = refl
abs_above (inf true) h k = unfold lt of_bits in never (sym h)
abs_above (inf false) h k = refl
abs_above (fin true zero e) h k = never (sym k ∙ eq_zero true zero e)
abs_above (fin true (suc m) e) h k = never (sym h ∙ lt_zero true (suc m) e)
abs_above (fin false m e) h k = refl

-- ---- tests in turn
second : {X : Type 0} (a b : Bool) (x y z : X) → a ≡ false → b ≡ true → y ≡ cond a x (cond b y z)
second a b x y z p q = rw (p, q)

third : {X : Type 0} (a b : Bool) (x y z : X) → a ≡ false → b ≡ false → z ≡ cond a x (cond b y z)
third a b x y z p q = rw (p, q)

-- ---- NaN: what differs from itself
differs : (a : Float) → ne a a ≡ true → is_nan a ≡ true
differs a h = ap is_nan (differs_from_itself a (subst T (sym h) tt)) ∙ (unfold is_nan in refl)

no_differs : (a : Float) → ne a a ≡ false → is_nan a ≡ false
no_differs nan h = never (sym h ∙ nan_differs)
no_differs (inf s) h = unfold is_nan in refl
no_differs (fin s m e) h = unfold is_nan in refl

module _ (a b : Float) where
  pub max_1 : lt a b ≡ true → b ≡ max a b
  unfolding max
  max_1 p = rw p

  pub max_2 : lt a b ≡ false → ne a a ≡ true → b ≡ max a b
  unfolding max
  max_2 p q = second (lt a b) (is_nan a) b b a p (differs a q)

  pub max_3 : lt a b ≡ false → ne a a ≡ false → a ≡ max a b
  unfolding max
  max_3 p q = third (lt a b) (is_nan a) b b a p (no_differs a q)

  pub min_1 : lt b a ≡ true → b ≡ min a b
  unfolding min
  min_1 p = rw p

  pub min_2 : lt b a ≡ false → ne a a ≡ true → b ≡ min a b
  unfolding min
  min_2 p q = second (lt b a) (is_nan a) b b a p (differs a q)

  pub min_3 : lt b a ≡ false → ne a a ≡ false → a ≡ min a b
  unfolding min
  min_3 p q = third (lt b a) (is_nan a) b b a p (no_differs a q)

-- ---- clamp
module _ (lo hi x : Float) where
  pub clamp_1 : lt x lo ≡ true → lo ≡ clamp lo hi x
  unfolding clamp
  clamp_1 p = rw p

  pub clamp_2 : lt x lo ≡ false → lt hi x ≡ true → hi ≡ clamp lo hi x
  unfolding clamp
  clamp_2 p q = second (lt x lo) (lt hi x) lo hi x p q

  pub clamp_3 : lt x lo ≡ false → lt hi x ≡ false → x ≡ clamp lo hi x
  unfolding clamp
  clamp_3 p q = third (lt x lo) (lt hi x) lo hi x p q

-- ---- finite: between the infinities
pub finite_1 : (x : Float) → lt x (of_bits binary64 0x7ff0_0000_0000_0000) ≡ true → lt (neg (of_bits binary64 0x7ff0_0000_0000_0000)) x ≡ finite x
unfolding lt neg of_bits
finite_1 nan h = refl
finite_1 (inf true) h = refl
finite_1 (inf false) h = never h
finite_1 (fin s m e) h = refl

pub finite_2 : (x : Float) → lt x (of_bits binary64 0x7ff0_0000_0000_0000) ≡ false → false ≡ finite x
unfolding lt of_bits
finite_2 nan h = refl
finite_2 (inf s) h = refl
finite_2 (fin s m e) h = never (sym h)

pub ruleset arms = (abs_below, abs_zero, abs_above, max_1, max_2, max_3, min_1, min_2, min_3, clamp_1, clamp_2, clamp_3, finite_1, finite_2)
