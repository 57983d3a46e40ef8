use Rattle.std.proofs.Common.{◌≡◌}
use Rattle.common.specs.Iter.{iter}
use Rattle.eigenaxis_seed.specs.Seeds as Seeds
use Rattle.eigenaxis_seed.proofs.seed.Given as goal

abbrev pub invariant-loop-i : goal.invariant-loop-i
invariant-loop-i l = l.s ≡ iter (Seeds.turn l.p l.shape l.k l.duration l.phi) l.initial.s l.i
