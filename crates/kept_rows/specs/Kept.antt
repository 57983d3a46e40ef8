-- The rows of a residual vector that are not always +0.0: which they are, where they stand when they are gathered in front, and the way back. Definitions only.
-- A vector has m residuals, 28 or 79. The 17 keep-out rows are left out: row 6 + k of 28, row 6 + 4k of 79, for each node k.
use Rattle.std.specs.Prelude.{ℕ, suc, ◌-◌, ◌/◌, ◌<◌, min, ◌≡◌, ◌⊎◌, Bool, true, false, cond, List, eqb, ltb, Float}
use Rattle.common.specs.Floats.{plus_zero}
use Rattle.common.specs.Lists.{at}
use Rattle.normal_equations.specs.Tab.{tab}
use Rattle.normal_equations.specs.Rows.{row}

-- a vector of residuals, without pointing rows or with them
abbrev pub Laid : ℕ → Type 0
Laid m = (m ≡ 28) ⊎ (m ≡ 79)

-- how many of the rows before row i are left out, with pointing rows and without
abbrev pub before_by : Bool → ℕ → ℕ
before_by true i = min 17 ((i - 3) / 4)
before_by false i = min 17 (i - 6)

abbrev pub before : ℕ → ℕ → ℕ
before m i = before_by (eqb m 79) i

-- row i is left out: one more before the next row than before it
abbrev pub left_out : ℕ → ℕ → Bool
left_out m i = ltb (before m i) (before m (suc i))

-- where row i stands among the kept rows, and how many they are
abbrev pub place : ℕ → ℕ → ℕ
place m i = i - before m i

abbrev pub kept : ℕ → ℕ
kept m = cond (eqb m 79) 62 11

-- the kept rows of r stand in front of x, in order
pub record Gathered (m : ℕ) (r x : List Float) : Type 0 where
  pub own : (i : ℕ) → i < m → left_out m i ≡ false → at x (place m i) ≡ at r i

-- the rows left out are +0.0 in r
pub record Zeros (m : ℕ) (r : List Float) : Type 0 where
  pub out : (i : ℕ) → i < m → left_out m i ≡ true → at r i ≡ plus_zero

-- all m rows again: those left out are +0.0
unfoldable pub scatter : ℕ → List Float → List Float
scatter m x = tab m (λ i. cond (left_out m i) plus_zero (at x (place m i)))

-- n columns of m rows, of which v has the kept rows, one column after the other
unfoldable pub columns : ℕ → ℕ → List Float → List (List Float)
columns n m v = tab n (λ c. scatter m (row (kept m) v c))
