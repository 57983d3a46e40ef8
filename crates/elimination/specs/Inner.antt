-- What the functions inside the crate say of the parts that are lent to them. No public contract cites these. Definitions only.
use Rattle.std.specs.Prelude.{ℕ, ◌+◌, ◌*◌, ◌<◌, ◌≤◌, Bool, true, cond, ◌≡◌, List, eqb, length, set, Float}
use Rattle.std.specs.Float.{binary64}
use Rattle.std.specs.Float.Ieee.{sub, mul}
use Rattle.common.specs.Lists.{at}
use Rattle.float.specs.Ops.{abs}
use Rattle.normal_equations.specs.Tab.{tab}
use Rattle.normal_equations.specs.Rows.{row, rows}
use Rattle.normal_equations.specs.Normal.{cell}
use Rattle.elimination.specs.Elimination.{pivot, swap_rows, swap_right, divide_row, divide_right, less, eliminated_row, eliminate, going, column, after}

-- col is column k of the rows a
abbrev pub Column : ℕ → ℕ → List (List Float) → List Float → Type 0
Column n k a col = (i : ℕ) → i < n → at col i ≡ cell a i k

-- the pivot's row p with the size of its number in column k
pub record Pivot (n k : ℕ) (a : List (List Float)) (p : ℕ) (size : Float) : Type 0 where
  pub chosen : p ≡ pivot n k a
  pub sized : size ≡ abs (cell a p k)
  pub inside : p < n
  pub least : k ≤ p

-- the same of whatever rows col is column k of
abbrev pub PivotOf : ℕ → ℕ → List Float → ℕ → Float → Type 0
PivotOf n k col p size = (a : List (List Float)) → Column n k a col → Pivot n k a p size

-- a right side less its number k times the numbers of a column, but for number k itself
unfoldable pub right_less : ℕ → ℕ → List Float → List Float → List Float
right_less n k col b = tab n (λ i. cond (eqb i k) (at b i) (sub binary64 (at b i) (mul binary64 (at col i) (at b k))))

-- elimination in columns k and k + 1 of a row, t and u being the rows by which it is done
abbrev pub less_two : ℕ → ℕ → List Float → List Float → List Float → List Float
less_two n k t u r = less n (k + 1) (at (less n k (at r k) t r) (k + 1)) u (less n k (at r k) t r)

-- of row i of the rows in which both u, row k + 1, and t, row k before the elimination in column k + 1, stand
abbrev pub two_row : ℕ → ℕ → List Float → List Float → ℕ → List Float → List Float
two_row n k t u i r = cond (eqb i (k + 1)) r (eliminated_row n (k + 1) u i (eliminated_row n k t i r))

unfoldable pub eliminate_two : ℕ → ℕ → List Float → List Float → List Float → List (List Float)
eliminate_two n k t u v = tab n (λ i. two_row n k t u i (row n v i))

-- u is v with rows k and p swapped and row k divided by d; top is row k
pub record Placed (n k p : ℕ) (v u top : List Float) (d : Float) : Type 0 where
  pub size : length u ≡ length v
  pub by : d ≡ cell (swap_rows n k p (rows n n v)) k k
  pub placed : rows n n u ≡ divide_row n k (swap_rows n k p (rows n n v))
  pub first : top ≡ row n u k

-- the same with the right side, from b to c, in which elimination in column k is done too; col is column k before
pub record PlacedBoth (n k p : ℕ) (v u top col b c : List Float) : Type 0 where
  pub matrix : Placed n k p v u top (cell (swap_rows n k p (rows n n v)) k k)
  pub right : c ≡ right_less n k (set col p (at col k)) (divide_right n k (cell (swap_rows n k p (rows n n v)) k k) (swap_right n k p b))

-- column k but for the elimination in u, which is still to be done by its row k, top; v and b before
pub record Begun (n k : ℕ) (v b : List Float) (r : Bool) (u top c : List Float) : Type 0 where
  pub stage : column n k (going (rows n n v) b) ≡ after r (eliminate n k (rows n n u)) c
  pub first : r ≡ true → top ≡ row n u k

-- the lengths of a matrix of n rows and of two rows of scratch
pub record Sized (n : ℕ) (a top spare : List Float) : Type 0 where
  pub matrix : length a ≡ n * n
  pub tops : length top ≡ n
  pub spares : length spare ≡ n
