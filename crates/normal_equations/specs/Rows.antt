-- How a part of the workspace holds lists: rows of w numbers, one after the other. Definitions only.
use Rattle.std.specs.Prelude.{ℕ, ◌*◌, List, take, drop, Float}
use Rattle.normal_equations.specs.Tab.{tab}

-- row i of rows of w numbers that lie one after the other
abbrev pub row : ℕ → List Float → ℕ → List Float
row w v i = take w (drop (i * w) v)

-- the first n rows
abbrev pub rows : ℕ → ℕ → List Float → List (List Float)
rows n w v = tab n (row w v)
