-- What the functions inside the crate say of the parts that are lent to them. No public contract cites these. Definitions only.
use Rattle.std.specs.Prelude.{ℕ, ◌+◌, ◌*◌, ◌<◌, ◌≤◌, cond, ◌≡◌, List, ltb, length, take, drop, Float}
use Rattle.common.specs.Lists.{at}
use Rattle.normal_equations.specs.Tab.{tab}
use Rattle.normal_equations.specs.Rows.{row, rows}
use Rattle.normal_equations.specs.FilledInner.{OneRow}
use Rattle.normal_equations.specs.Normal.{dot, damped, right_side}

-- the sums of column p with each of the columns that lie one after the other in j
abbrev pub cells_of : List Float → List Float → ℕ → Float
cells_of p j d = dot (length p) p (row (length p) j d)

-- the sums of column p with four columns
pub record Dots (p q t u v : List Float) (a b c d : Float) : Type 0 where
  pub first : a ≡ dot (length p) p q
  pub second : b ≡ dot (length p) p t
  pub third : c ≡ dot (length p) p u
  pub fourth : d ≡ dot (length p) p v

-- the sums of column c with each column of m numbers in j
abbrev pub sums_of : ℕ → List Float → ℕ → ℕ → Float
sums_of m j c d = dot m (row m j c) (row m j d)

-- row holds them from column a up to n
abbrev pub Summed : ℕ → List Float → ℕ → ℕ → ℕ → List Float → Type 0
Summed m j c a n row = (x : ℕ) → a ≤ x → x < n → at row x ≡ sums_of m j c x

-- v holds n columns of m numbers, then n rows: row c with its cells before the diagonal taken from the rows above
abbrev pub mirrored_at : ℕ → ℕ → List Float → ℕ → ℕ → Float
mirrored_at n m v c d = cond (ltb d c) (at (drop (n * m) v) (d * n + c)) (sums_of m (take (n * m) v) c d)

unfoldable pub mirrored_row : ℕ → ℕ → List Float → ℕ → List Float
mirrored_row n m v c = tab n (mirrored_at n m v c)

-- the columns are as they were, and of the rows only row c has changed
pub record RowFilled (n m : ℕ) (v : List Float) (c : ℕ) (u : List Float) : Type 0 where
  pub size : length u ≡ length v
  pub columns : take (n * m) u ≡ take (n * m) v
  pub matrix : OneRow c (mirrored_row n m v c) (row n (drop (n * m) v)) (row n (drop (n * m) u))

-- the same of rows c and c + 1, one after the other
pub record RowsFilled (n m : ℕ) (v : List Float) (c : ℕ) (u : List Float) : Type 0 where
  pub middle : List Float
  pub first : RowFilled n m v c middle
  pub second : RowFilled n m middle (c + 1) u

-- v begins with n columns of m numbers and goes on with n rows: in u the columns stay and the rows are damped; g is the right side
pub record Completed (n m : ℕ) (v r : List Float) (lambda : Float) (u g : List Float) : Type 0 where
  pub columns : take (n * m) u ≡ take (n * m) v
  pub matrix : rows n n (drop (n * m) u) ≡ damped n lambda (rows n n (drop (n * m) v))
  pub right : g ≡ right_side n m (rows n m (take (n * m) v)) r
