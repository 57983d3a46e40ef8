use Rattle.common.specs.Lists.{at}
use Rattle.normal_equations.specs.FilledInner.{Filled}
use Rattle.elimination.specs.Elimination as Elimination
use Rattle.elimination.proofs.rows.take_row.Given as goal

-- the numbers from k to j are reduced and the others unchanged
abbrev pub invariant-loop-j : goal.invariant-loop-j
invariant-loop-j l = Filled (Elimination.less_at l.k l.f l.top l.initial.row) l.k l.j (at l.initial.row) (at l.row)
