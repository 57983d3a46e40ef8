-- Gauss-Jordan elimination with partial pivoting, as `solve_dense` in scvx.rs does it: n rows of n numbers and a right side of n. Definitions only.
use Rattle.std.specs.Prelude.{ℕ, ◌+◌, ◌-◌, Bool, true, false, cond, List, eqb, leb, Float}
use Rattle.std.specs.Float.{binary64}
use Rattle.std.specs.Float.Ieee.{sub, mul, div, lt, of_bits}
use Rattle.common.specs.Iter.{iter}
use Rattle.common.specs.Lists.{at}
use Rattle.normal_equations.specs.Tab.{tab}
use Rattle.normal_equations.specs.Normal.{line, cell, normal_matrix, right_side}
use Rattle.float.specs.Ops.{abs}

-- of rows p and i the one with the larger number in column k, the first of equals: `if mag > best { pivot = i; }`; a NaN in row p stays, one in row i is passed over
abbrev pub larger : ℕ → List (List Float) → ℕ → ℕ → ℕ
larger k a i p = cond (lt (abs (cell a p k)) (abs (cell a i k))) i p

-- the pivot's row: k against each row below it, in order
unfoldable pub pivot : ℕ → ℕ → List (List Float) → ℕ
pivot n k a = iter (λ t p. larger k a (k + 1 + t) p) k (n - (k + 1))

-- rows k and p change places: which row of the old stands in place i
abbrev pub exchanged : ℕ → ℕ → ℕ → ℕ
exchanged k p i = cond (eqb i k) p (cond (eqb i p) k i)

unfoldable pub swap_rows : ℕ → ℕ → ℕ → List (List Float) → List (List Float)
swap_rows n k p a = tab n (λ i. line a (exchanged k p i))

unfoldable pub swap_right : ℕ → ℕ → ℕ → List Float → List Float
swap_right n k p b = tab n (λ i. at b (exchanged k p i))

-- a row divided by its number in column k, from column k on
abbrev pub divided_at : ℕ → List Float → ℕ → Float
divided_at k r j = cond (leb k j) (div binary64 (at r j) (at r k)) (at r j)

unfoldable pub divided : ℕ → ℕ → List Float → List Float
divided n k r = tab n (divided_at k r)

-- row k is divided; of the right side, number k by the same d
unfoldable pub divide_row : ℕ → ℕ → List (List Float) → List (List Float)
divide_row n k a = tab n (λ i. cond (eqb i k) (divided n k (line a i)) (line a i))

unfoldable pub divide_right : ℕ → ℕ → Float → List Float → List Float
divide_right n k d b = tab n (λ i. cond (eqb i k) (div binary64 (at b i) d) (at b i))

-- row r less f times row t, from column k on
abbrev pub less_at : ℕ → Float → List Float → List Float → ℕ → Float
less_at k f t r j = cond (leb k j) (sub binary64 (at r j) (mul binary64 f (at t j))) (at r j)

unfoldable pub less : ℕ → ℕ → Float → List Float → List Float → List Float
less n k f t r = tab n (less_at k f t r)

-- every row but k loses its number in column k times row k
abbrev pub eliminated_row : ℕ → ℕ → List Float → ℕ → List Float → List Float
eliminated_row n k t i r = cond (eqb i k) r (less n k (at r k) t r)

unfoldable pub eliminate : ℕ → ℕ → List (List Float) → List (List Float)
eliminate n k a = tab n (λ i. eliminated_row n k (line a k) i (line a i))

unfoldable pub eliminate_right : ℕ → ℕ → List (List Float) → List Float → List Float
eliminate_right n k a b = tab n (λ i. cond (eqb i k) (at b i) (sub binary64 (at b i) (mul binary64 (cell a i k) (at b k))))

-- a matrix and a right side under way, or the stop at a pivot that is too small
pub data Stage : Type 0 where
  going : List (List Float) → List Float → Stage
  stopped : Stage

-- column k of a matrix whose row k is divided: eliminated
abbrev pub cleared_by : ℕ → ℕ → List (List Float) → List Float → Stage
cleared_by n k a b = going (eliminate n k a) (eliminate_right n k a b)

-- its row k divided, then the same
abbrev pub divided_by : ℕ → ℕ → List (List Float) → List Float → Stage
divided_by n k a b = cleared_by n k (divide_row n k a) (divide_right n k (cell a k k) b)

-- column k with the pivot in row p: swap, divide, eliminate
unfoldable pub reduce : ℕ → ℕ → ℕ → List (List Float) → List Float → Stage
reduce n k p a b = divided_by n k (swap_rows n k p a) (swap_right n k p b)

-- `best < 1.0e-18`: a NaN goes on
abbrev pub too_small : ℕ → ℕ → List (List Float) → Bool
too_small k p a = lt (abs (cell a p k)) (of_bits binary64 0x3C32_725D_D1D2_43AC)

-- column k
abbrev pub column_by : ℕ → ℕ → ℕ → List (List Float) → List Float → Stage
column_by n k p a b = cond (too_small k p a) stopped (reduce n k p a b)

abbrev pub column : ℕ → ℕ → Stage → Stage
column n k (going a b) = column_by n k (pivot n k a) a b
column n k stopped = stopped

-- what a function that answers whether it went on has left
abbrev pub after : Bool → List (List Float) → List Float → Stage
after true a b = going a b
after false a b = stopped

-- what is found: the right side after all n columns is the answer. Of a singular matrix nothing is said.
pub data Solution : Type 0 where
  Solved : List Float → Solution
  Singular : Solution

abbrev pub solution_of : Stage → Solution
solution_of (going a b) = Solved b
solution_of stopped = Singular

unfoldable pub solve_dense : ℕ → List (List Float) → List Float → Solution
solve_dense n a b = solution_of (iter (column n) (going a b) n)

-- what a function says that answers true or false and leaves a right side: after false the numbers that it leaves, of the right side and of the matrix, are free
abbrev pub told : Bool → List Float → Solution
told true b = Solved b
told false b = Singular

-- the step of a Levenberg-Marquardt iteration: the normal equations of the columns j and the residuals r, solved
unfoldable pub damped_step : ℕ → ℕ → List (List Float) → List Float → Float → Solution
damped_step n m j r lambda = solve_dense n (normal_matrix n m j lambda) (right_side n m j r)
