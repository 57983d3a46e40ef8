-- After k turns the sum is the definition's over the first k controls.
use Rattle.std.proofs.Common.{ℕ, ◌+◌, ◌≡◌}
use Rattle.common.specs.Lists.{at}
use Rattle.residuals.specs.Sums as Sums
use Rattle.residuals.proofs.sums.effort.Given as goal

abbrev pub invariant-loop-k : goal.invariant-loop-k
invariant-loop-k l = l.sum ≡ Sums.squares (λ (i : ℕ). at l.z (i + 1)) l.k
