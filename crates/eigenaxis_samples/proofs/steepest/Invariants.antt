-- `eigenaxis_samples::steepest`: the largest of the first k steps.
use Rattle.std.proofs.Common.{◌≡◌}
use Rattle.common.specs.Floats.{plus_zero}
use Rattle.common.specs.Iter.{iter}
use Rattle.eigenaxis_samples.specs.Courses.{steep_turn}
use Rattle.eigenaxis_samples.proofs.steepest.Given as goal

abbrev pub invariant-loop-k : goal.invariant-loop-k
invariant-loop-k l = l.a ≡ iter (steep_turn l.nodes l.dt) plus_zero l.k
