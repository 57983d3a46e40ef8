-- The numbers before i are those of `from`.
use Rattle.common.specs.Lists.{at}
use Rattle.normal_equations.specs.FilledInner.{Filled}
use Rattle.normal_equations.proofs.rows.copy.Given as goal

abbrev pub invariant-loop-i : goal.invariant-loop-i
invariant-loop-i l = Filled (at l.from) 0 l.i (at l.initial.to) (at l.to)
