-- How many of a decision's 16 controls at each place of a row are changed when they are held to their limits: what operators read to see which actuator
-- saturates. The decision is the one before its projection. Definitions only.
use Rattle.std.specs.Prelude.{ℕ, ◌+◌, ◌*◌, cond, List, get_or, set, replicate, Float}
use Rattle.common.specs.Iter.{iter}
use Rattle.common.specs.Lists.{at}
use Rattle.actuators.specs.Maps.{control_dim}
use Rattle.actuators.specs.declared.ActuatorMap.{ActuatorMap}
use Rattle.control_limits.specs.Limits.{limit_of, changed}
use Rattle.controls.specs.Controls.{rig_of}

-- control i's limit in a row of the map m, with the torque limits box
abbrev pub limit_in : ActuatorMap → List Float → ℕ → Float
limit_in m box i = limit_of (rig_of m) m.wheel_torques m.thruster_torques box i

-- control i of row k of the decision z, c to a row
abbrev pub control : ℕ → List Float → ℕ → ℕ → Float
control c z k i = at z (1 + k * c + i)

-- one more where holding changes the control x
abbrev pub counted : Float → Float → ℕ → ℕ
counted limit x n = cond (changed limit x) (n + 1) n

-- row k is looked at
abbrev pub count_turn : Float → ℕ → List Float → ℕ → ℕ → ℕ → ℕ
count_turn limit c z i k n = counted limit (control c z k i) n

-- how many of the 16 controls at place i are changed
unfoldable pub held_at : Float → ℕ → List Float → ℕ → ℕ
held_at limit c z i = iter (count_turn limit c z i) 0 16

-- place i is counted
abbrev pub place_turn : ActuatorMap → List Float → List Float → ℕ → List ℕ → List ℕ
place_turn m box z i l = set l i (held_at (limit_in m box i) (control_dim m) z i)

-- the counts of the decision z, place by place; past a row's controls stands 0
unfoldable pub held_counts : ActuatorMap → List Float → List Float → List ℕ
held_counts m box z = iter (place_turn m box z) (replicate 12 0) (control_dim m)

-- no control held
abbrev pub none_held : List ℕ
none_held = replicate 12 0

-- the count of place i; past the end stands 0
abbrev pub count_at_value : List ℕ → ℕ → ℕ
count_at_value l i = get_or l i 0
