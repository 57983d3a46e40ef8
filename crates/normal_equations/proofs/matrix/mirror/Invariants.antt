use Rattle.std.proofs.Common.{◌+◌, ◌*◌, length}
use Rattle.common.specs.Lists.{at}
use Rattle.normal_equations.specs.FilledInner.{Filled}
use Rattle.normal_equations.proofs.matrix.mirror.Given as goal

-- the numbers before d are those of column c in the rows above
abbrev pub invariant-loop-d : goal.invariant-loop-d
invariant-loop-d l = Filled (λ x. at l.a (x * length l.fn.row + l.c)) 0 l.d (at l.initial.row) (at l.row)
