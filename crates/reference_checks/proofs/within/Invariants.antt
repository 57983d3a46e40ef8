use Rattle.std.proofs.Common.{◌≡◌, true}
use Rattle.common.specs.Iter.{iter}
use Rattle.reference_checks.specs.Checks as Checks
use Rattle.reference_checks.proofs.within.Given as goal

abbrev pub invariant-loop-i : goal.invariant-loop-i
invariant-loop-i l = l.all ≡ iter (Checks.within_turn l.v l.limits) true l.i
