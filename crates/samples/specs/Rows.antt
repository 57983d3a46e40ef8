-- A path's 17 nodes as rows of 22 numbers: time, attitude, rate, torque, body momentum, wheel momenta. Definitions only.
use Rattle.std.specs.Prelude.{ℕ, List, [], ◌∷◌, replicate, slice_index_or, slice_set, Float}
use Rattle.common.specs.Floats.{plus_zero}
use Rattle.common.specs.Iter.{iter}
use Rattle.common.specs.Lists.{at}
use Rattle.forward.specs.Runs.{no_node}
use Rattle.forward.specs.declared.Node.{Node}

-- a node's numbers
unfoldable pub row : Node → List Float
row n =
    n.t ∷ n.q.w ∷ n.q.x ∷ n.q.y ∷ n.q.z
    ∷ at n.w 0 ∷ at n.w 1 ∷ at n.w 2
    ∷ at n.tau 0 ∷ at n.tau 1 ∷ at n.tau 2
    ∷ at n.h 0 ∷ at n.h 1 ∷ at n.h 2
    ∷ at n.hw 0 ∷ at n.hw 1 ∷ at n.hw 2 ∷ at n.hw 3 ∷ at n.hw 4 ∷ at n.hw 5 ∷ at n.hw 6 ∷ at n.hw 7
    ∷ []

-- row k is node k's
abbrev pub row_turn : List Node → ℕ → List (List Float) → List (List Float)
row_turn nodes k rows = slice_set rows k (row (slice_index_or nodes k no_node))

-- the 17 nodes' rows
unfoldable pub rows : List Node → List (List Float)
rows nodes = iter (row_turn nodes) (replicate 17 (replicate 22 plus_zero)) 17
