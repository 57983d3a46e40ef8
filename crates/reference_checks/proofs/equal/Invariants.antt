use Rattle.std.proofs.Common.{◌≡◌, true}
use Rattle.common.specs.Iter.{iter}
use Rattle.reference_checks.specs.Checks as Checks
use Rattle.reference_checks.proofs.equal.Given as goal

abbrev pub invariant-loop-i : goal.invariant-loop-i
invariant-loop-i l = l.all ≡ iter (Checks.equal_turn l.v l.u) true l.i
