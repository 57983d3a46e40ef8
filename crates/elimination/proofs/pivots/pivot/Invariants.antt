use Rattle.std.proofs.Common.{◌≡◌, ℕ, ◌+◌, ◌-◌, ◌<◌, ◌≤◌, List, length}
use Rattle.std.proofs.Math.Bool.{cond}
use Rattle.std.specs.Float.Ieee.{Float, lt}
use Rattle.common.specs.Iter.{iter}
use Rattle.common.specs.Lists.{at}
use Rattle.float.specs.Ops as Ops
use Rattle.elimination.proofs.pivots.pivot.Given as goal

-- the definition's choice among row k and the t rows below it
abbrev pub chosen : List Float → ℕ → ℕ → ℕ
chosen col k t = iter (λ i p. cond (lt (Ops.abs (at col p)) (Ops.abs (at col (k + 1 + i)))) (k + 1 + i) p) k t

-- best is the choice among the rows before i, with its size
abbrev pub invariant-loop-i : goal.invariant-loop-i
invariant-loop-i l = (l.best.at < length l.col) × (l.k ≤ l.best.at) × (l.best.size ≡ Ops.abs (at l.col l.best.at)) × (l.best.at ≡ chosen l.col l.k (l.i - (l.k + 1)))
