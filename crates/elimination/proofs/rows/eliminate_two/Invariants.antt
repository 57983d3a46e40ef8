use Rattle.std.proofs.Common.{length}
use Rattle.normal_equations.specs.FilledInner.{Filled}
use Rattle.normal_equations.specs.Rows.{row}
use Rattle.elimination.specs.Inner as Inner
use Rattle.elimination.proofs.rows.eliminate_two.Given as goal

-- the rows before i have had both eliminations and the others none
abbrev pub invariant-loop-i : goal.invariant-loop-i
invariant-loop-i l = Filled (λ x. Inner.two_row (length l.t) l.k l.t l.u x (row (length l.t) l.initial.a x)) 0 l.i (row (length l.t) l.initial.a) (row (length l.t) l.a)
