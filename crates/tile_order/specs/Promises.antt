-- What is promised of the answer for n tiles, the table t and the budget b. Definitions only: `PromisesKept` proves it.
use Rattle.std.specs.Prelude.{ℕ, ◌+◌, ◌-◌, ◌≤◌, ◌≡◌, true, false, List, length, get_or, take}
use Rattle.tile_order.specs.declared.Found.{Found}
use Rattle.tile_order.specs.Orders.{Order, cost}

pub record Promised (n : ℕ) (t : List ℕ) (b : ℕ) (r : Found) : Type 0 where
  -- it is an order, in the first n of ten places, with 0 in the others, and at its cost
  pub order : Order n (take n r.order)
  pub long : length r.order ≡ 10
  pub past : (i : ℕ) → n ≤ i → get_or r.order i 0 ≡ 0
  pub price : r.cost ≡ cost n t (take n r.order)
  -- the count is within the budget, and all of it where that was used up
  pub within : r.placed ≤ b
  pub used : r.exhausted ≡ true → r.placed ≡ b
  -- where it was not, no order is cheaper; no order is cheaper than the floor; so the answer lies at most its cost less the floor above the least
  pub least : r.exhausted ≡ false → (o : List ℕ) → Order n o → r.cost ≤ cost n t o
  pub bottom : (o : List ℕ) → Order n o → r.floor ≤ cost n t o
  pub near : (o : List ℕ) → Order n o → r.cost ≤ cost n t o + (r.cost - r.floor)
