-- The largest of some floats, as `fold(0.0, f64::max)` makes it: a NaN is dropped, and where the largest is not above t, none is. Assumes nothing.
use Prim.Native.Nat.{ℕ, zero, suc, ◌<◌}
use Rattle.std.proofs.Common.{arith, T_not}
use Rattle.std.specs.Prelude.{Bool, true, false, not, cond, Float}
use Rattle.std.proofs.Math.Dec.{T, not_T}
use Rattle.std.specs.Float.{nan, inf, fin, Format}
use Rattle.std.specs.Float.Ieee.{lt, fits, is_nan}
use Rattle.std.specs.Float.Ieee.Fits.{cond-fits}
use Rattle.common.specs.Iter.{iter}
use Rattle.float.specs.Ops.{number, max}
use Rattle.float.specs.OpsLaws.{max_number}
use Rattle.float_laws.specs.Below.{below_none, below_next}
use Rattle.float_laws.specs.Numbers.{lt_l, lt_r}
use Rattle.float_laws.specs.Order.{held, lt_up, nlt_up, up_lt, lt_trans}

-- the largest of a and x 0 .. x (n - 1)
abbrev pub largest : Float → (ℕ → Float) → ℕ → Float
largest a x n = iter (λ (k : ℕ) (e : Float). max e (x k)) a n

-- the larger of two values of the format is one
pub max_fits : (f : Format) (a b : Float) → T (fits f a) → T (fits f b) → T (fits f (max a b))
unfolding max
max_fits f a b A B = cond-fits f (lt a b) b (cond (is_nan a) b a) B (cond-fits f (is_nan a) b a B A)

module _ (f : Format) (t a b : Float) (F : T (fits f t)) (A : T (fits f a)) (B : T (fits f b)) where
  -- the larger is above t where the first is
  pub max_above_l : T (lt t a) → T (lt t (max a b))
  max_above_l h = rw (max_number a b (lt_r t a h)) (go (lt a b) (λ k. k))
    where
      go : (c : Bool) → (T c → T (lt a b)) → T (lt t (cond c b a))
      go true k = lt_trans f t a b F A B h (k tt)
      go false k = h

  above_number : T (number a) → T (lt t b) → T (lt t (max a b))
  above_number n h = rw (max_number a b n) (go (lt a b) (λ k. k))
    where
      go : (c : Bool) → (T (not c) → T (not (lt a b))) → T (lt t (cond c b a))
      go true k = h
      go false k =
          let N = held F (lt_l t b h) in let M = held B (lt_r t b h) in let L = held A n in
          up_lt f t a N L (omega (arith, lt_up f t b N M h, nlt_up f a b L M (k tt)))

-- and where the second is
pub max_above_r : (f : Format) (t a b : Float) → T (fits f t) → T (fits f a) → T (fits f b) → T (lt t b) → T (lt t (max a b))
unfolding max lt is_nan
max_above_r f t nan b F A B h = h
max_above_r f t (inf s) b F A B h = above_number f t (inf s) b F A B tt h
max_above_r f t (fin s m e) b F A B h = above_number f t (fin s m e) b F A B tt h

module _ (f : Format) (a : Float) (x : ℕ → Float) (A : T (fits f a)) (F : (i : ℕ) → T (fits f (x i))) where
  -- the largest of values of the format is one
  pub largest_fits : (n : ℕ) → T (fits f (largest a x n))
  unfolding iter
  largest_fits zero = A
  largest_fits (suc n) = max_fits f (largest a x n) (x n) (largest_fits n) (F n)

  above : (t : Float) → T (fits f t) → (n i : ℕ) → i < n → T (lt t (x i)) → T (lt t (largest a x n))
  unfolding iter
  above t g zero i h = below_none (λ i. T (lt t (x i)) → T (lt t (largest a x zero))) i h
  above t g (suc n) i h = below_next (λ i. T (lt t (x i)) → T (lt t (largest a x (suc n)))) n
      (max_above_r f t (largest a x n) (x n) g (largest_fits n) (F n))
      (λ i l k. max_above_l f t (largest a x n) (x n) g (largest_fits n) (F n) (above t g n i l k)) i h

  -- where the largest is not above t, none is
  pub none_above : (t : Float) → T (fits f t) → (n : ℕ) → T (not (lt t (largest a x n))) → (i : ℕ) → i < n → T (not (lt t (x i)))
  none_above t g n h i l = not_T (lt t (x i)) (λ k. T_not (lt t (largest a x n)) h (above t g n i l k))
