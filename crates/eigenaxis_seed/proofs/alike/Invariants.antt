use Rattle.std.proofs.Common.{◌≡◌, true}
use Rattle.common.specs.Iter.{iter}
use Rattle.eigenaxis_seed.specs.Seeds as Seeds
use Rattle.eigenaxis_seed.proofs.alike.Given as goal

abbrev pub invariant-loop-i : goal.invariant-loop-i
invariant-loop-i l = l.same ≡ iter (Seeds.alike_turn l.a l.b) true l.i
