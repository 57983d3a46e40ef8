use Rattle.std.proofs.Common.{◌≡◌}
use Rattle.common.specs.Iter.{iter}
use Rattle.samples.specs.Rows.{row_turn}
use Rattle.samples.proofs.rows.rows.Given as goal

-- the rows are the definition's after k turns
abbrev pub invariant-loop-k : goal.invariant-loop-k
invariant-loop-k l = l.out ≡ iter (row_turn l.nodes) l.initial.out l.k
