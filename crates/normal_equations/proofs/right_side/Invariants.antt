use Rattle.std.specs.Float.Ieee.{neg}
use Rattle.common.specs.Lists.{at}
use Rattle.normal_equations.specs.Normal as Normal
use Rattle.normal_equations.specs.Rows.{row}
use Rattle.normal_equations.specs.FilledInner.{Filled}
use Rattle.normal_equations.proofs.right_side.Given as goal

-- the numbers before c are the negated sums of their columns with r
abbrev pub invariant-loop-c : goal.invariant-loop-c
invariant-loop-c l = Filled (λ x. neg (Normal.dot l.m (row l.m l.j x) l.r)) 0 l.c (at l.initial.g) (at l.g)
