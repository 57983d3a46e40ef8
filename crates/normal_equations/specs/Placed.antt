-- Where a column of the Jacobian and the normal equations stand in a workspace, and what stays there. Definitions only.
use Rattle.std.specs.Prelude.{ℕ, ◌+◌, ◌*◌, ◌<◌, ◌≤◌, ◌≡◌, ◌⊎◌, List, length, take, drop, Float}
use Rattle.common.specs.Lists.{at}
use Rattle.normal_equations.specs.Rows.{row, rows}
use Rattle.normal_equations.specs.Normal.{normal_matrix, right_side}

-- u is v with x as column c of its columns of m numbers: every other column, and every number before and past column c, is as it was
pub record ColumnPut (m c : ℕ) (x v u : List Float) : Type 0 where
  pub size : length u ≡ length v
  pub own : row m u c ≡ x
  pub others : (d : ℕ) → (d ≡ c → ⊥) → row m u d ≡ row m v d
  pub outside : (i : ℕ) → (i < c * m) ⊎ (c * m + m ≤ i) → at u i ≡ at v i

-- v begins with n columns of m numbers: in u they stay, with the normal matrix behind them, by rows; g is the right side
pub record Equations (n m : ℕ) (v r : List Float) (lambda : Float) (u g : List Float) : Type 0 where
  pub columns : take (n * m) u ≡ take (n * m) v
  pub matrix : rows n n (drop (n * m) u) ≡ normal_matrix n m (rows n m (take (n * m) v)) lambda
  pub right : g ≡ right_side n m (rows n m (take (n * m) v)) r
