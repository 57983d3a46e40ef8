-- After g gimbals the places before them are right.
use Rattle.std.proofs.Common.{◌+◌, ◌*◌}
use Rattle.gimbal_angles.specs.Known as Known
use Rattle.gimbal_angles.proofs.put_angles.Given as goal

abbrev pub invariant-loop-g : goal.invariant-loop-g
invariant-loop-g l = Known.Filled (4 * l.k + l.g) l.lut
