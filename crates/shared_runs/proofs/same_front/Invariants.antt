-- After i turns the first i numbers agree, bit for bit.
use Rattle.shared_runs.specs.Shared.{Agree}
use Rattle.shared_runs.proofs.same_front.Given as goal

abbrev pub invariant-loop-i : goal.invariant-loop-i
invariant-loop-i l = Agree l.i l.y l.z
