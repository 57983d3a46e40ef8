use Rattle.common.specs.Lists.{at}
use Rattle.normal_equations.specs.Inner as Inner
use Rattle.normal_equations.specs.FilledInner.{Filled}
use Rattle.normal_equations.proofs.sums.ones.Given as goal

-- the cells from `from` to d are the sums of p with their columns
abbrev pub invariant-loop-d : goal.invariant-loop-d
invariant-loop-d l = Filled (Inner.cells_of l.p l.j) l.from l.d (at l.initial.row) (at l.row)
