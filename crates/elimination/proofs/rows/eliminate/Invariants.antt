use Rattle.std.proofs.Common.{length}
use Rattle.normal_equations.specs.FilledInner.{Filled}
use Rattle.normal_equations.specs.Rows.{row}
use Rattle.elimination.specs.Elimination as Elimination
use Rattle.elimination.proofs.rows.eliminate.Given as goal

-- the rows before i are eliminated and the others unchanged; top is row k
abbrev pub invariant-loop-i : goal.invariant-loop-i
invariant-loop-i l = Filled (λ x. Elimination.eliminated_row (length l.top) l.k l.top x (row (length l.top) l.initial.a x)) 0 l.i (row (length l.top) l.initial.a) (row (length l.top) l.a)
