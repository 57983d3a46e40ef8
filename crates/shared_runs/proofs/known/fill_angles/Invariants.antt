-- After k turns the places of the first k steps are right.
use Rattle.std.proofs.Common.{◌*◌}
use Rattle.gimbal_angles.specs.Known.{Filled}
use Rattle.shared_runs.proofs.known.fill_angles.Given as goal

abbrev pub invariant-loop-k : goal.invariant-loop-k
invariant-loop-k l = Filled (4 * l.k) l.lut
