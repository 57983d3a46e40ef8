use Rattle.std.specs.Float.Ieee.{binary64, sub, div}
use Rattle.common.specs.Lists.{at}
use Rattle.normal_equations.specs.Normal as Normal
use Rattle.normal_equations.specs.FilledInner.{Filled}
use Rattle.normal_equations.proofs.put_slopes.Given as goal

-- the numbers before i are the definition's slopes
abbrev pub invariant-loop-i : goal.invariant-loop-i
invariant-loop-i l = Filled (λ x. div binary64 (sub binary64 (at l.rp x) (at l.r0 x)) Normal.fd_eps) 0 l.i (at l.initial.column) (at l.column)
