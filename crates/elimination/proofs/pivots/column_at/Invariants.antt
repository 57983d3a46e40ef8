use Rattle.std.proofs.Common.{◌+◌, ◌*◌, length}
use Rattle.common.specs.Lists.{at}
use Rattle.normal_equations.specs.FilledInner.{Filled}
use Rattle.elimination.proofs.pivots.column_at.Given as goal

-- each number before i is the one of its row in column k
abbrev pub invariant-loop-i : goal.invariant-loop-i
invariant-loop-i l = Filled (λ x. at l.a (x * length l.fn.col + l.k)) 0 l.i (at l.initial.col) (at l.col)
