-- An order of the tiles, and what it costs. Definitions only.
use Rattle.std.specs.Prelude.{ℕ, ◌+◌, ◌-◌, ◌<◌, ◌≡◌, List, length, get_or, set, replicate}
use Rattle.common.specs.Iter.{iter}
use Rattle.tile_order.specs.Below.{sum}
use Rattle.tile_order.specs.Tables.{time}

-- the first k places of p: tile 0 first, tiles of n, no two alike
pub record Part (n : ℕ) (p : List ℕ) (k : ℕ) : Type 0 where
  pub first : get_or p 0 0 ≡ 0
  pub below : (i : ℕ) → i < k → get_or p i 0 < n
  pub apart : (i j : ℕ) → i < j → j < k → get_or p i 0 ≡ get_or p j 0 → ⊥

-- an order of n tiles: each tile one time, tile 0 first
pub record Order (n : ℕ) (o : List ℕ) : Type 0 where
  pub long : length o ≡ n
  pub part : Part n o n

-- what the first k legs of an order cost, and all of them
abbrev pub legs : ℕ → List ℕ → List ℕ → ℕ → ℕ
legs n t o k = sum (λ i. time n t (get_or o i 0) (get_or o (i + 1) 0)) k

abbrev pub cost : ℕ → List ℕ → List ℕ → ℕ
cost n t o = legs n t o (n - 1)

-- the order 0, 1, 2 and so on in ten places, with 0 in those past n
abbrev pub straight : ℕ → List ℕ
straight n = iter (λ i o. set o i i) (replicate 10 0) n
