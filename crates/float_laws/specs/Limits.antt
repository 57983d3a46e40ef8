-- Limits: a control clamped to one is within it, and a value whose size passes the test against one, with its tolerance of 1e-9, is within it as exact numbers. Assumes nothing.
use Rattle.std.specs.Prelude.{◌≡◌, ℕ, ◌+◌, ◌≤◌, ◌<◌, Bool, not, ◌+ℤ◌, ◌<ℤ◌, T, Float}
use Rattle.std.proofs.Math.Nat.{lt_of_not-le}
use native.Mathlib.Omega.{arith}
use Rattle.std.proofs.Math.IntN.{pos-+ℤ-pos}
use Rattle.std.specs.Int.Signed.{lt_z_yes}
use Rattle.std.proofs.Math.Dec.{T_not}
use Rattle.std.proofs.Common.{lt→ltb}
use Rattle.std.specs.Float.{nan, inf, fin, Format, binary64}
use Rattle.std.specs.Float.Ieee.{add, sub, neg, lt, le, fits, of_bits}
use Rattle.std.specs.Float.Ieee.Fits.{sub-fits, neg-fits}
use Rattle.std.specs.Float.Ieee.Scale.{finite}
use Rattle.float.specs.Ops.{number, abs, clamp}
use Rattle.float_laws.specs.Place.{mag, mid, place, fin_under}
use Rattle.float_laws.specs.Order.{Held, held, lt_up, up_lt, mag_abs, place_neg, abs_fits}
use Rattle.float_laws.specs.Signs.{plus, place_plus, abs_plus, above_zero_plus}
use Rattle.float_laws.specs.Finite.{finite_number, finite_neg, finite_abs, sub_number}
use Rattle.float_laws.specs.Clamp.{sym_abs, sym_idem}
use Rattle.float_laws.specs.Rounding.{add_above}
use Rattle.float_laws.specs.Largest.{largest, none_above}
use Rattle.float_laws.specs.Exact.{exact, exact_plus, exact_abs}

-- a limit as the problem's checks leave it: an f64, finite and above 0
pub record Limit (l : Float) : Type 0 where
  pub fit : T (fits binary64 l)
  pub fine : T (finite l)
  pub over : T (lt (of_bits binary64 0) l)

module _ (l : Float) (L : Limit l) where
  -- a limit is a number, and lies above zero
  pub limit_held : Held binary64 l
  limit_held = held L.fit (finite_number l L.fine)

  pub limit_place : mid binary64 ≤ place binary64 l
  limit_place = omega (arith, place_plus binary64 l (above_zero_plus l L.over))

  module _ (x : Float) (g : T (fits binary64 x)) (p : T (number x)) where
    -- CONTROLS: a clamped number is at most its limit in size
    pub control_within : T (le (abs (clamp (neg l) l x)) l)
    control_within = sym_abs binary64 l limit_held limit_place x (held g p)

    -- and to clamp it again changes nothing
    pub control_again : clamp (neg l) l (clamp (neg l) l x) ≡ clamp (neg l) l x
    control_again = sym_idem binary64 l limit_held limit_place x (held g p)

-- 1e-9
abbrev pub tol : Float
tol = of_bits binary64 0x3e11_2e0b_e826_d695

-- the next f64 above 1e-9
abbrev pub next_above_nano : Float
next_above_nano = of_bits binary64 0x3e11_2e0b_e826_d696

pub tol_held : Held binary64 tol
unfolding of_bits fits
tol_held = held tt tt

pub tol_finite : T (finite tol)
unfolding of_bits
tol_finite = tt

pub next_held : Held binary64 next_above_nano
unfolding of_bits fits
next_held = held tt tt

pub next_finite : T (finite next_above_nano)
unfolding of_bits
next_finite = tt

pub next_plus : T (plus next_above_nano)
unfolding of_bits
next_plus = tt

pub tol_next : T (lt tol next_above_nano)
unfolding of_bits lt
tol_next = tt

-- a finite value lies below ∞
pub finite_under : (f : Format) (x : Float) → T (fits f x) → T (finite x) → place f x < mid f + mid f
finite_under f nan g p = absurd p
finite_under f (inf s) g p = absurd p
finite_under f (fin s m e) g p = fin_under f e s m g

-- for any tolerance a and a value b above it: |t| - l not above a gives |t| < l + b, as exact numbers
module _ (f : Format) (a b : Float) (A : Held f a) (B : Held f b) (ab : T (lt a b)) (bp : T (plus b)) (bf : T (finite b)) where
  pub within : (t l : Float) → T (fits f t) → T (fits f l) → T (finite t) → T (finite l) → T (plus l) → T (not (lt a (sub f (abs t) l))) → mag f t < mag f l + mag f b
  unfolding sub
  within t l gt gl ft fl pl h =
      lt_of_not-le (λ (k : mag f l + mag f b ≤ mag f t).
      T_not (lt a (sub f (abs t) l)) h
      (up_lt f a (sub f (abs t) l) A (held (sub-fits f (abs t) l) (sub_number f (abs t) l (finite_number (abs t) (finite_abs t ft)) fl))
      (omega (
        arith,
        lt_up f a b A B ab,
        add_above f (abs t) (neg l) b (finite_abs t ft) (finite_neg l fl) (abs_fits f t gt) (neg-fits f l gl) B (finite_under f b B.fit bf)
            (omega (arith, place_plus f b bp, place_plus f (abs t) (abs_plus t (finite_number t ft)), mag_abs f t, place_plus f l pl, place_neg f l (held gl (finite_number l fl)))),
      ))))

-- |t| is below its limit and the next f64 above 1e-9, in units of 2 ^ -1074
pub record Under (t l : Float) : Type 0 where
  pub fine : T (finite t)
  pub under : mag binary64 t < mag binary64 l + mag binary64 next_above_nano

-- the same as whole numbers of 2 ^ -1074
pub under_exact : (t l : Float) → Limit l → Under t l → exact (abs t) <ℤ (exact l +ℤ exact next_above_nano)
under_exact t l L U =
    rw (exact_abs t U.fine, exact_plus l L.fine (above_zero_plus l L.over), exact_plus next_above_nano next_finite next_plus, pos-+ℤ-pos)
    (lt_z_yes (lt→ltb (mag binary64 t) (mag binary64 l + mag binary64 next_above_nano) U.under))
