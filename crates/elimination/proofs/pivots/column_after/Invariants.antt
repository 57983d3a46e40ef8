use Rattle.std.proofs.Common.{◌+◌, ◌*◌, length}
use Rattle.std.specs.Float.Ieee.{binary64, sub, mul}
use Rattle.common.specs.Lists.{at}
use Rattle.normal_equations.specs.FilledInner.{Filled}
use Rattle.elimination.proofs.pivots.column_after.Given as goal

-- each number before i is eliminated
abbrev pub invariant-loop-i : goal.invariant-loop-i
invariant-loop-i l = Filled (λ x. sub binary64 (at l.a (x * length l.fn.col + (l.k + 1))) (mul binary64 (at l.a (x * length l.fn.col + l.k)) (at l.top (l.k + 1)))) 0 l.i (at l.initial.col) (at l.col)
