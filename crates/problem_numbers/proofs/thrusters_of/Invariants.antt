-- `thrusters_of`: the places before k are filled.
use Rattle.std.proofs.Common.{◌≡◌, set, replicate}
use Rattle.common.specs.Iter.{iter}
use Rattle.actuators.specs.Maps.{blank_thruster}
use Rattle.problem_numbers.specs.Declared.{thruster_at}
use Rattle.problem_numbers.proofs.thrusters_of.Given as goal

abbrev pub invariant-loop-k : goal.invariant-loop-k
invariant-loop-k l = l.out ≡ iter (λ j x. set x j (thruster_at l.v j)) (replicate 12 blank_thruster) l.k
