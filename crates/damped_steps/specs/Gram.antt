-- A Gram matrix that is kept beside the workspace while its columns stay. Definitions only.
use Rattle.std.specs.Prelude.{ℕ, ◌*◌, ◌≤◌, ◌≡◌, List, length, Float}
use Rattle.normal_equations.specs.Normal.{gram}
use Rattle.normal_equations.specs.Rows.{rows}

-- if a has room for n rows of n numbers, they are the Gram matrix of the n columns j of m numbers, without a damping factor
abbrev pub GramKept : ℕ → ℕ → List (List Float) → List Float → Type 0
GramKept n m j a = n * n ≤ length a → rows n n a ≡ gram n m j
