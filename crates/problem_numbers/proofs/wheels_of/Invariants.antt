-- `wheels_of`: the places before k are filled.
use Rattle.std.proofs.Common.{◌≡◌, set, replicate}
use Rattle.common.specs.Iter.{iter}
use Rattle.actuators.specs.Maps.{blank_wheel}
use Rattle.problem_numbers.specs.Declared.{wheel_at}
use Rattle.problem_numbers.proofs.wheels_of.Given as goal

abbrev pub invariant-loop-k : goal.invariant-loop-k
invariant-loop-k l = l.out ≡ iter (λ j x. set x j (wheel_at l.c l.v j)) (replicate 8 blank_wheel) l.k
