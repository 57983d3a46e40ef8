-- Actuator maps: blank values, what stands in the tables, the width of a control row. Definitions only.
use Rattle.std.specs.Prelude.{ℕ, ◌+◌, ◌*◌, Bool, true, false, cond, ◌&&◌, List, [], ◌∷◌, eqb, leb, Float, get_or, replicate, Option, Some, None}
use Rattle.std.specs.Float.{nan}
use Rattle.common.specs.Floats.{plus_zero}
use Rattle.common.specs.Lists.{at}
use Rattle.actuators.specs.declared.Wheel.{Wheel}
use Rattle.actuators.specs.declared.Thruster.{Thruster}
use Rattle.actuators.specs.declared.CmgPyramid.{CmgPyramid}
use Rattle.actuators.specs.declared.Actuators.{Actuators}
use Rattle.actuators.specs.declared.ActuatorMap.{ActuatorMap}

-- ---- blank values

-- a wheel past the count
abbrev pub blank_wheel : Wheel
blank_wheel = record { axis = replicate 3 plus_zero; max_torque_nm = plus_zero; max_momentum_nms = plus_zero; max_power_w = None }

-- a thruster past the count
abbrev pub blank_thruster : Thruster
blank_thruster = record { torque_axis = replicate 3 plus_zero; max_torque_nm = plus_zero }

-- wheel k of a list; what stands past its end, no answer depends on
abbrev pub wheel_at : List Wheel → ℕ → Wheel
wheel_at ws k = get_or ws k (record { axis = []; max_torque_nm = nan; max_momentum_nms = nan; max_power_w = None })

-- thruster k of a list; what stands past its end, no answer depends on
abbrev pub thruster_at : List Thruster → ℕ → Thruster
thruster_at ts k = get_or ts k (record { torque_axis = []; max_torque_nm = nan })

-- what a user fills, with nothing filled in
unfoldable pub no_actuators : Actuators
no_actuators = record {
  wheels = replicate 8 blank_wheel;
  wheel_count = 0;
  thrusters = replicate 12 blank_thruster;
  thruster_count = 0;
  cmgs = None;
}

-- a power limit that is not declared
abbrev pub no_power_value : Option Float
no_power_value = None

-- a map of nw wheels, nt thrusters and these gyros whose tables hold +0 and Nothing alone
unfoldable pub unfilled : ℕ → ℕ → Option CmgPyramid → ActuatorMap
unfilled nw nt c = record {
  wheel_count = nw;
  thruster_count = nt;
  cmgs = c;
  wheel_axes = replicate 24 plus_zero;
  wheel_torques = replicate 8 plus_zero;
  wheel_momenta = replicate 8 plus_zero;
  wheel_powers = replicate 8 no_power_value;
  thruster_axes = replicate 36 plus_zero;
  thruster_torques = replicate 12 plus_zero;
}

-- the map of no actuators, which stands beside every refusal too
abbrev pub blank_map : ActuatorMap
blank_map = unfilled 0 0 None

-- ---- what stands in the tables

-- the three numbers of axis k in a flat table
abbrev pub axis_at : List Float → ℕ → List Float
axis_at t k = at t (3 * k) ∷ at t (3 * k + 1) ∷ at t (3 * k + 2) ∷ []

-- ---- the width of a control row

-- gimbal rates in a row
abbrev pub gimbals : Option CmgPyramid → ℕ
gimbals None = 0
gimbals (Some p) = 4

-- there is no pyramid
abbrev pub no_cmgs : Option CmgPyramid → Bool
no_cmgs None = true
no_cmgs (Some p) = false

-- there are no actuators at all
unfoldable pub is_empty : ActuatorMap → Bool
is_empty m = eqb m.wheel_count 0 && eqb m.thruster_count 0 && no_cmgs m.cmgs

-- both counts are within the tables; `prepare` makes no other map
unfoldable pub is_sized : ActuatorMap → Bool
is_sized m = leb m.wheel_count 8 && leb m.thruster_count 12

-- Controls per row: body torques with no actuators, else one a wheel, one a thruster and four of a pyramid. A map that is not sized has no meaning in
-- the specification: its width is free, and is 0 here.
unfoldable pub control_dim : ActuatorMap → ℕ
control_dim m = cond (is_sized m) (cond (is_empty m) 3 (m.wheel_count + m.thruster_count + gimbals m.cmgs)) 0
