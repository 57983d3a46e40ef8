-- A value whose size passes the test against a limit, with its tolerance of 1e-9, is within it as exact numbers. Assumes nothing.
use Rattle.std.specs.Prelude.{ℕ, ◌<◌, Bool, not, T, Float}
use Rattle.std.proofs.Math.Dec.{T_not}
use Rattle.std.specs.Float.{nan, inf, fin, binary64}
use Rattle.std.specs.Float.Ieee.{add, sub, neg, lt, fits, of_bits}
use Rattle.std.specs.Float.Ieee.Fits.{sub-fits}
use Rattle.std.specs.Float.Ieee.Scale.{finite}
use Rattle.float.specs.Ops.{number, abs}
use Rattle.float_laws.specs.Order.{Held}
use Rattle.float_laws.specs.Signs.{above_zero_plus}
use Rattle.float_laws.specs.Largest.{largest, none_above}
use Rattle.float_laws.specs.Limits.{Limit, Under, tol, next_above_nano, tol_held, next_held, tol_next, next_plus, next_finite, within}

inf_over : (s : Bool) (l : Float) → T (finite l) → T (lt tol (sub binary64 (abs (inf s)) l))
unfolding of_bits lt sub abs neg add
inf_over s nan p = absurd p
inf_over s (inf t) p = absurd p
inf_over s (fin t n d) p = tt

-- BOUND: a number t whose |t| - l is not above 1e-9 has |t| < l + (the next f64 above 1e-9)
pub bound : (t l : Float) → T (fits binary64 t) → T (number t) → Limit l → T (not (lt tol (sub binary64 (abs t) l))) → Under t l
bound nan l g p L h = absurd p
bound (inf s) l g p L h = absurd (T_not (lt tol (sub binary64 (abs (inf s)) l)) h (inf_over s l L.fine))
bound (fin s m e) l g p L h = record { fine = tt; under = within binary64 tol next_above_nano tol_held next_held tol_next next_plus next_finite (fin s m e) l g L.fit tt L.fine (above_zero_plus l L.over) h }

zero_fits : T (fits binary64 (of_bits binary64 0))
unfolding fits of_bits
zero_fits = tt

-- EXCESS: where the largest of |t i| - l i, from 0.0 on, is not above 1e-9, each t i that is no NaN is within
pub excess_under : (t l : ℕ → Float) (n : ℕ) → ((i : ℕ) → i < n → Held binary64 (t i)) → ((i : ℕ) → i < n → Limit (l i)) → T (not (lt tol (largest (of_bits binary64 0) (λ i. sub binary64 (abs (t i)) (l i)) n)))
    → (i : ℕ) → i < n → Under (t i) (l i)
excess_under t l n H L h i k =
    bound (t i) (l i) (H i k).fit (H i k).num (L i k)
    (none_above binary64 (of_bits binary64 0) (λ i. sub binary64 (abs (t i)) (l i)) zero_fits (λ i. sub-fits binary64 (abs (t i)) (l i)) tol tol_held.fit n h i k)
