-- A table of the times from each tile to each other, its test, and the floor. Definitions only.
use Rattle.std.specs.Prelude.{ℕ, ◌+◌, ◌*◌, ◌-◌, ◌<◌, ◌≤◌, min, ◌≡◌, Bool, true, false, cond, List, ltb, eqb, length, get_or}
use Rattle.common.specs.Iter.{iter}
use Rattle.tile_order.specs.Below.{any, sum}

-- the time from tile i to tile j in a table of n rows
abbrev pub time : ℕ → List ℕ → ℕ → ℕ → ℕ
time n t i j = get_or t (i * n + j) 0

-- the highest time, in milliseconds
abbrev pub longest : ℕ
longest = 10_000_000

-- ---- the test, as it is made

-- the time from i to j is outside 1 to 10,000,000; from a tile to itself it is not read
abbrev pub outside : ℕ → List ℕ → ℕ → ℕ → Bool
outside n t i j = cond (eqb i j) false (cond (eqb (time n t i j) 0) true (ltb longest (time n t i j)))

abbrev pub any_outside : ℕ → List ℕ → Bool
any_outside n t = any (λ i. any (outside n t i) n) n

-- no tile, more than 10, a table that is not n by n, or a time outside
abbrev pub refused : ℕ → List ℕ → Bool
refused n t = cond (eqb n 0) true (cond (ltb 10 n) true (cond (eqb (length t) (n * n)) (any_outside n t) true))

-- ---- what passes it (`TableLaws.table`, `table_taken`: exactly that)

-- the time from i to j is 1 to 10,000,000
pub record Inside (n : ℕ) (t : List ℕ) (i j : ℕ) : Type 0 where
  pub low : 1 ≤ time n t i j
  pub high : time n t i j ≤ longest

-- one to ten tiles, a square table, and each time from a tile to another inside
pub record Table (n : ℕ) (t : List ℕ) : Type 0 where
  pub some : 1 ≤ n
  pub few : n ≤ 10
  pub size : length t ≡ n * n
  pub inside : (i j : ℕ) → i < n → j < n → (i ≡ j → ⊥) → Inside n t i j

-- ---- the floor

-- the least time into tile i from any other, tile 0 too
abbrev pub least : ℕ → List ℕ → ℕ → ℕ
least n t i = iter (λ j m. cond (eqb j i) m (min m (time n t j i))) longest n

-- the sum of the least times into the tiles but tile 0
abbrev pub floor : ℕ → List ℕ → ℕ
floor n t = sum (λ i. least n t (i + 1)) (n - 1)
