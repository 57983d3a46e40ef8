-- What a user of dense samples can count on between two nodes: a weighted mean of two finite f64, with a fraction from 0 to 1, is finite and, as an exact number, in size at most the larger
-- of the two times 1 + 2 ^ -50, plus 2 ^ -1070; at the fraction 0 it is the first. Assumes nothing.
use Rattle.std.specs.Prelude.{◌≡◌, refl, Bool, true, false, ◌||◌, ℕ, zero, suc, ◌+◌, ◌*◌, ◌^◌, ◌≤◌, max, ℤ, pos, negsuc, nat_abs, T, eqb, Float}
use Rattle.std.proofs.Common.{sym, ap, ◌∙◌, mul-one, one-mul, mul-pos, zero-lt-suc, arith, eqb→eq}
use Rattle.std.specs.Bool.{beq}
use Rattle.std.proofs.Math.Pow.{pow-lt}
use Rattle.std.specs.Float.Ieee as Ieee
use Rattle.std.specs.Float.{nan, inf, fin, binary64}
use Rattle.std.specs.Float.Ieee.{up, down, units, round, sum, neg, add, sub, mul, eq, fits, of_bits}
use Rattle.std.specs.Float.Ieee.Fits.{up_pos, and_l}
use Rattle.std.specs.Float.Ieee.Scale.{finite}
use Rattle.common.specs.Floats.{plus_zero}
use Rattle.float_laws.specs.Place.{mag}
use Rattle.float_laws.specs.Exact.{signed, exact}
use Rattle.mean_laws.specs.Means.{Plain, Fraction, mean, size, Bounded}
use Rattle.mean_laws.specs.Weights.{nought, mean_first}
use Rattle.mean_laws.specs.Rounded.{Weight, Mean, unit, weight_by, mean_is}

signed_size : (s : Bool) (n : ℕ) → nat_abs (signed s n) ≡ n
signed_size false n = refl
signed_size true zero = refl
signed_size true (suc n) = refl

size_is : (x : Float) → T (finite x) → size x ≡ mag binary64 x
unfolding exact
size_is nan p = absurd p
size_is (inf s) p = absurd p
size_is (fin s m e) p = signed_size s (mag binary64 (fin s m e))

fraction_weight : (x : Float) → Fraction x → Weight binary64 x
unfolding of_bits
fraction_weight x p = weight_by binary64 x p.fit p.from0 p.upto1

-- from parts in 2 ^ 53 to parts in 2 ^ 50
rough : (w A B : ℕ) → 2 ^ 53 * w ≤ 2 ^ 53 * max A B + 5 * max A B + 2 ^ 53 + 1 → 2 ^ 50 * w ≤ (2 ^ 50 + 1) * max A B + 2 ^ 50 * 16
rough w A B h = omega arith

upper_l : (A B : ℕ) → A ≤ max A B
upper_l A B = omega arith

upper_r : (A B : ℕ) → B ≤ max A B
upper_r A B = omega arith

-- MEAN: finite, and hardly larger than the larger of the two
pub mean_bounded : (a b x : Float) → Plain a → Plain b → Fraction x → Bounded a b (mean a b x)
unfolding of_bits
mean_bounded a b x p q r =
    let w = add binary64 (mul binary64 a (sub binary64 unit x)) (mul binary64 b x) in
    let m : Mean binary64 a b w = mean_is binary64 a b x p q (fraction_weight x r) in
    let A = mag binary64 a in
    let B = mag binary64 b in record {
      fine = m.fine;
      within = rw (size_is w m.fine, size_is a p.fine, size_is b q.fine) (rough (mag binary64 w) A B (m.size (max A B) (upper_l A B) (upper_r A B)));
    }

-- ---- at the fraction 0

-- no power of two above the first is 1
no_power : (k : ℕ) → 2 ^ suc k ≡ 1 → ⊥
no_power k e = omega (arith, pow-lt {i = 0} {j = suc k} (zero-lt-suc k))

null_power : (s : Bool) (e : ℤ) → T (fits binary64 (fin s 0 e)) → e ≡ pos 0
unfolding fits
null_power s (pos zero) t = refl
null_power s (pos (suc k)) t = absurd (no_power k (sym (mul-one (2 ^ suc k)) ∙ eqb→eq (2 ^ suc k * 1) 1 t))
null_power s (negsuc k) t = absurd (no_power k (sym (one-mul (2 ^ suc k)) ∙ eqb→eq (1 * 2 ^ suc k) 1 t))

-- an f64 that equals 0 is a zero of either sign
pub null_is : (x : Float) → T (fits binary64 x) → T (eq x plus_zero) → (s : Bool) × (x ≡ nought s)
unfolding eq of_bits
null_is nan g t = absurd t
null_is (inf s) g t = absurd t
null_is (fin s zero e) g t = (s, ap (λ (z : ℤ). fin s 0 z) (null_power s e g))
null_is (fin s (suc m) e) g t =
    let h : suc m * up e * 1 ≡ 0 * 1 * down e = eqb→eq (suc m * up e * 1) (0 * 1 * down e) (and_l (eqb (suc m * up e * 1) (0 * 1 * down e)) (beq s false || eqb (suc m * up e * 1) 0) t) in
    absurd (omega (arith, mul-pos (zero-lt-suc m) (up_pos e)))

-- MEAN AT 0: as an exact number it is the first
pub mean_null : (a b x : Float) → Plain a → Plain b → T (fits binary64 x) → T (eq x plus_zero) → exact (mean a b x) ≡ exact a
mean_null a b x p q g h = let z = null_is x g h in rw z.1 (mean_first a b z.0 p q)

-- ---- one of the two themselves
pub first_bounded : (a b : Float) → T (finite a) → Bounded a b a
first_bounded a b p = record { fine = p; within = left (size a) (size b) }
  where
    left : (A B : ℕ) → 2 ^ 50 * A ≤ (2 ^ 50 + 1) * max A B + 2 ^ 50 * 16
    left A B = omega arith

pub second_bounded : (a b : Float) → T (finite b) → Bounded a b b
second_bounded a b p = record { fine = p; within = right (size a) (size b) }
  where
    right : (A B : ℕ) → 2 ^ 50 * B ≤ (2 ^ 50 + 1) * max A B + 2 ^ 50 * 16
    right A B = omega arith

-- ---- "at most the larger of the two" is false: a fifth of the way from 0.1 to 0.1 the mean is the f64 next above 0.1
pub mean_above : mean (of_bits binary64 0x3fb9_9999_9999_999a) (of_bits binary64 0x3fb9_9999_9999_999a) (of_bits binary64 0x3fc9_9999_9999_999a) ≡ of_bits binary64 0x3fb9_9999_9999_999b
unfolding add sub mul neg sum round units of_bits Ieee.size
mean_above = refl
