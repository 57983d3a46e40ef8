-- Nodes as rows of 22 numbers, which can be lent: time, attitude, rate, torque, body momentum, the wheels' momenta. Definitions only.
use Rattle.std.specs.Prelude.{ℕ, ◌<◌, ◌≡◌, List, [], ◌∷◌, map, get_or, Float}
use Rattle.common.specs.Lists.{at}
use Rattle.geom.specs.declared.Quat.{Quat}
use Rattle.forward.specs.declared.Node.{Node}

-- ---- what stands in a row
abbrev pub attitude_in : List Float → Quat
attitude_in r = record { w = at r 1; x = at r 2; y = at r 3; z = at r 4 }

abbrev pub rate_in : List Float → List Float
rate_in r = at r 5 ∷ at r 6 ∷ at r 7 ∷ []

abbrev pub torque_in : List Float → List Float
torque_in r = at r 8 ∷ at r 9 ∷ at r 10 ∷ []

abbrev pub momenta_in : List Float → List Float
momenta_in r = at r 14 ∷ at r 15 ∷ at r 16 ∷ at r 17 ∷ at r 18 ∷ at r 19 ∷ at r 20 ∷ at r 21 ∷ []

unfoldable pub node_from : List Float → Node
node_from r = record { t = at r 0; q = attitude_in r; w = rate_in r; tau = torque_in r; h = at r 11 ∷ at r 12 ∷ at r 13 ∷ []; hw = momenta_in r }

-- ---- the nodes in rows
unfoldable pub nodes_from : List (List Float) → List Node
nodes_from rows = map node_from rows

abbrev pub row_at : List (List Float) → ℕ → List Float
row_at rows k = get_or rows k []

-- the first k rows of u are those of v
abbrev pub SameBelow : ℕ → List (List Float) → List (List Float) → Type 0
SameBelow k v u = (i : ℕ) → i < k → row_at u i ≡ row_at v i
