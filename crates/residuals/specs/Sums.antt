-- The sums of the residuals, each from +0 in order, and the computed length. Definitions only.
use Rattle.std.specs.Prelude.{ℕ, ◌+◌, List, get_or, Float}
use Rattle.std.specs.Float.{binary64}
use Rattle.std.specs.Float.Ieee.{add, mul, div}
use Rattle.common.specs.Floats as Floats
use Rattle.common.specs.Iter.{iter}
use Rattle.common.specs.Lists.{at}
use Rattle.float.specs.Ops.{abs}
use Rattle.float.specs.Sqrt.{sqrt}
use Rattle.geom.specs.Vec as Vec
use Rattle.geom.specs.Quats.{norm3}
use Rattle.forward.specs.Runs.{node_at}
use Rattle.forward.specs.declared.Node.{Node}

-- the squares of the first n numbers of f
abbrev pub squares : (ℕ → Float) → ℕ → Float
squares f n = iter (λ (k : ℕ) (e : Float). add binary64 e (mul binary64 (f k) (f k))) Floats.plus_zero n

-- the computed length of the first n numbers of r: the residual length where r is the residuals
unfoldable pub norm_slice : List Float → ℕ → Float
norm_slice r n = sqrt binary64 (squares (at r) n)

-- the squares of n controls, row by row
unfoldable pub effort : List Float → ℕ → Float
effort z n = squares (λ (k : ℕ). at z (k + 1)) n

-- the size of torque times rate over a step, times its time, added to e
abbrev pub energy_of : Node → Float → Float → Float
energy_of node dt e = add binary64 e (mul binary64 (abs (Vec.dot3 node.tau node.w)) dt)

abbrev pub energy_turn : List Node → Float → ℕ → Float → Float
energy_turn ns dt k e = energy_of (node_at ns k) dt e

-- over the first k steps
abbrev pub energy_over : List Node → Float → ℕ → Float
energy_over ns dt k = iter (energy_turn ns dt) Floats.plus_zero k

-- over the 16 steps
unfoldable pub energy : List Node → Float → Float
energy ns dt = energy_over ns dt 16

-- the length of the rate's change from w to w2 over a time dt
abbrev pub change : List Float → List Float → Float → Float
change w w2 dt = norm3 (Vec.scale3 (Vec.sub3 w2 w) (div binary64 Floats.one dt))

-- its square, times the time, added to e
unfoldable pub smooth_of : List Float → List Float → Float → Float → Float
smooth_of w w2 dt e = add binary64 e (mul binary64 (mul binary64 (change w w2 dt) (change w w2 dt)) dt)

abbrev pub smooth_turn : List Node → Float → ℕ → Float → Float
smooth_turn ns dt k e = smooth_of (node_at ns k).w (node_at ns (k + 1)).w dt e

-- over the first k steps
abbrev pub smooth_over : List Node → Float → ℕ → Float
smooth_over ns dt k = iter (smooth_turn ns dt) Floats.plus_zero k

-- over the 16 steps
unfoldable pub smooth : List Node → Float → Float
smooth ns dt = smooth_over ns dt 16
