use Rattle.std.proofs.Common.{◌≡◌, ℕ, ◌<◌, length}
use Rattle.geom.specs.Vec as Vec
use Rattle.sample_lists.specs.StagesInner.{step_row}
use Rattle.sample_lists.proofs.steps.step_rows.Given as goal

-- the first i rows stand
abbrev pub invariant-loop-i : goal.invariant-loop-i
invariant-loop-i l = (length l.out ≡ 16) × ((k : ℕ) → k < l.i → Vec.row l.out k ≡ step_row l.inertia l.nodes k)
