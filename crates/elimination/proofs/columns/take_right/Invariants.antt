use Rattle.std.specs.Float.Ieee.{binary64, sub, mul}
use Rattle.common.specs.Lists.{at}
use Rattle.normal_equations.specs.FilledInner.{Filled}
use Rattle.elimination.proofs.columns.take_right.Given as goal

-- the numbers before i are reduced
abbrev pub invariant-loop-i : goal.invariant-loop-i
invariant-loop-i l = Filled (λ x. sub binary64 (at l.initial.b x) (mul binary64 (at l.col x) (at l.initial.b l.k))) 0 l.i (at l.initial.b) (at l.b)
