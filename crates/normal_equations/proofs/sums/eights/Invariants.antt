use Rattle.std.proofs.Common.{◌+◌, ◌*◌}
use Rattle.common.specs.Lists.{at}
use Rattle.normal_equations.specs.Inner as Inner
use Rattle.normal_equations.specs.FilledInner.{Filled}
use Rattle.normal_equations.proofs.sums.eights.Given as goal

-- in both rows the cells from `from` on are right, four more a turn
abbrev pub invariant-loop-t : goal.invariant-loop-t
invariant-loop-t l = (Filled (Inner.cells_of l.o l.j) l.from (l.from + 4 * l.t) (at l.initial.row) (at l.row)) × (Filled (Inner.cells_of l.p l.j) l.from (l.from + 4 * l.t) (at l.initial.next) (at l.next))
