-- After k turns the sum is that of the first k squares.
use Rattle.std.proofs.Common.{◌≡◌}
use Rattle.common.specs.Lists.{at}
use Rattle.residuals.specs.Sums as Sums
use Rattle.residuals.proofs.sums.norm_slice.Given as goal

abbrev pub invariant-loop-k : goal.invariant-loop-k
invariant-loop-k l = l.sum ≡ Sums.squares (at l.r) l.k
