-- An answer of tile_order as the numbers that the C interface gives. Definitions only.
use Rattle.std.specs.Prelude.{ℕ, cond, List, [], ◌∷◌}
use Rattle.tile_order.specs.declared.Found.{Found}

-- the cost, the tiles placed, whether the budget was used up, the floor
abbrev pub told : Found → List ℕ
told f = f.cost ∷ f.placed ∷ cond f.exhausted 1 0 ∷ f.floor ∷ []
