-- After k turns the map is that of the first k wheels, of which none was refused.
use Rattle.std.proofs.Common.{◌≡◌}
use Rattle.common.specs.Iter.{iter}
use Rattle.actuators.specs.Prepare as Prepare
use Rattle.actuators.proofs.checks.wheels_checked.Given as goal

abbrev pub invariant-loop-k : goal.invariant-loop-k
invariant-loop-k l = Prepare.so_far l.map ≡ iter (Prepare.wheel_turn l.wheels) (Prepare.so_far l.initial.map) l.k
