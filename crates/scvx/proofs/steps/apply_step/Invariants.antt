use Rattle.std.proofs.Common.{◌≡◌}
use Rattle.common.specs.Iter.{iter}
use Rattle.scvx.specs.Search as Search
use Rattle.scvx.proofs.steps.apply_step.Given as goal

abbrev pub invariant-loop-i : goal.invariant-loop-i
invariant-loop-i l = l.out ≡ iter (Search.add_turn_value l.d) l.initial.out l.i
