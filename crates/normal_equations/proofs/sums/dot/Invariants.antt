use Rattle.std.proofs.Common.{◌≡◌}
use Rattle.normal_equations.specs.Normal as Normal
use Rattle.normal_equations.proofs.sums.dot.Given as goal

-- s is the definition's sum of the first i products
abbrev pub invariant-loop-i : goal.invariant-loop-i
invariant-loop-i l = l.s ≡ Normal.dot l.i l.p l.q
