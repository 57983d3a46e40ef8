use Rattle.std.proofs.Common.{◌+◌}
use Rattle.std.specs.Float.Ieee.{binary64, sub, mul}
use Rattle.common.specs.Lists.{at}
use Rattle.normal_equations.specs.FilledInner.{Filled}
use Rattle.elimination.proofs.rows.take_two.Given as goal

-- k + 1 to j are reduced by both rows; the row at the start has its number k done
abbrev pub invariant-loop-j : goal.invariant-loop-j
invariant-loop-j l = Filled (λ x. sub binary64 (sub binary64 (at l.initial.row x) (mul binary64 l.f (at l.t x))) (mul binary64 l.g (at l.u x))) (l.k + 1) l.j (at l.initial.row) (at l.row)
