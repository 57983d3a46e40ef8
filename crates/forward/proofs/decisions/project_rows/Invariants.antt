-- After k turns the first k rows are projected, and a row put back keeps the list's length.
use Rattle.std.proofs.Common.{◌≡◌, length}
use Rattle.common.specs.Iter.{iter}
use Rattle.forward.specs.Decisions as Decisions
use Rattle.forward.proofs.decisions.project_rows.Given as goal

abbrev pub invariant-loop-k : goal.invariant-loop-k
invariant-loop-k l = (length l.out ≡ 193) × (l.out ≡ iter (Decisions.project_turn l.map l.torque_limit) l.initial.out l.k)
