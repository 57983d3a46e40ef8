-- The search for an order of the tiles: n tiles, a budget b, the table t. Definitions only.
use Rattle.std.specs.Prelude.{ℕ, zero, suc, ◌+◌, ◌-◌, Bool, true, false, cond, List, leb, eqb, get_or, set, replicate}
use Rattle.common.specs.Iter.{iter}
use Rattle.tile_order.specs.Below.{any}
use Rattle.tile_order.specs.Tables.{time}
use Rattle.tile_order.specs.Orders.{cost, straight}

-- how far the search is: the best order so far, its cost, the tiles placed, and whether one more was wanted than the budget has
pub record Progress : Type 0 where
  pub order : List ℕ
  pub cost : ℕ
  pub placed : ℕ
  pub exhausted : Bool

abbrev pub progress : List ℕ → ℕ → ℕ → Bool → Progress
progress o c k e = record { order = o; cost = c; placed = k; exhausted = e }

-- whether x stands in one of the first k places of p
abbrev pub seen : List ℕ → ℕ → ℕ → Bool
seen p k x = any (λ i. eqb (get_or p i 0) x) k

-- a placement was wanted and none was left; one was made
abbrev pub spent : Progress → Progress
spent s = progress s.order s.cost s.placed true

abbrev pub counted : Progress → Progress
counted s = progress s.order s.cost (s.placed + 1) s.exhausted

-- tile x after the j + 1 tiles placed in p, which cost c: used up, placed already, no budget, not below the best, or on from there
unfoldable pub turn : (List ℕ → ℕ → Progress → Progress) → ℕ → ℕ → List ℕ → List ℕ → ℕ → ℕ → ℕ → Progress → Progress
turn deeper n b t p j c x s =
    cond s.exhausted s
    (cond (seen p (j + 1) x) s
    (cond (leb b s.placed) (spent s)
    (cond (leb s.cost (c + time n t (get_or p j 0) x)) (counted s)
    (deeper (set p (j + 1) x) (c + time n t (get_or p j 0) x) (counted s)))))

-- all ways to place l tiles more after the j + 1 tiles in p, which cost c, by ascending tile number
unfoldable pub visit : ℕ → ℕ → List ℕ → ℕ → ℕ → List ℕ → ℕ → Progress → Progress
visit n b t zero j p c s = progress p c s.placed s.exhausted
visit n b t (suc l) j p c s = iter (turn (visit n b t l (j + 1)) n b t p j c) s n

-- the best at the start is 0, 1, 2 and so on
abbrev pub opening : ℕ → List ℕ → Progress
opening n t = progress (straight n) (cost n t (straight n)) 0 false

abbrev pub search : ℕ → List ℕ → ℕ → Progress
search n t b = visit n b t (n - 1) 0 (replicate 10 0) 0 (opening n t)
