use Rattle.std.proofs.Common.{◌≡◌}
use Rattle.common.specs.Iter.{iter}
use Rattle.seeds.specs.Seeds as Seeds
use Rattle.seeds.proofs.allocate_rows.Given as goal

abbrev pub invariant-loop-k : goal.invariant-loop-k
invariant-loop-k l = l.out ≡ iter (Seeds.allocate_turn l.map l.torques) l.initial.out l.k
