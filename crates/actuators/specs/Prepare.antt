-- Preparing actuators: the counts, then each actuator's numbers and its axis, in the order of actuators.rs. Definitions only.
use Rattle.std.specs.Prelude.{ℕ, ◌+◌, ◌*◌, Bool, false, cond, not, ◌||◌, List, ltb, Float, set, Option, Some, None, Result, Ok, Err}
use Rattle.std.specs.Float.{binary64}
use Rattle.std.specs.Float.Ieee.{le, of_bits}
use Rattle.common.specs.Iter.{iter}
use Rattle.geom.specs.Vec.{is_positive_value}
use Rattle.geom.specs.Quats.{unit3}
use Rattle.actuators.specs.declared.Wheel.{Wheel}
use Rattle.actuators.specs.declared.Thruster.{Thruster}
use Rattle.actuators.specs.declared.CmgPyramid.{CmgPyramid}
use Rattle.actuators.specs.declared.Actuators.{Actuators}
use Rattle.actuators.specs.declared.ActuatorMap.{ActuatorMap}
use Rattle.actuators.specs.Maps.{wheel_at, thruster_at, blank_map, unfilled}
use Rattle.common.specs.declared.Refusal.{Refusal}
use Rattle.common.specs.Refusals.{Fate, refusal, going}
use Rattle.std.specs.Result.{result_unwrap_or}

-- ---- numbers outside their range

-- not finite, or not above 0
unfoldable pub outside : Float → Bool
outside x = not (is_positive_value x)

-- a declared power that is
abbrev pub power_outside : Option Float → Bool
power_outside None = false
power_outside (Some p) = outside p

-- one of a wheel's numbers is outside its range
unfoldable pub wheel_outside : Wheel → Bool
wheel_outside w = outside w.max_torque_nm || outside w.max_momentum_nms || power_outside w.max_power_w

-- 1.6, which the skew does not reach
abbrev pub skew_end : Float
skew_end = of_bits binary64 0x3ff9_9999_9999_999a

-- one of a pyramid's numbers is outside its range
unfoldable pub pyramid_outside : CmgPyramid → Bool
pyramid_outside p =
    outside p.skew_rad
    || le skew_end p.skew_rad
    || outside p.wheel_momentum_nms
    || outside p.max_gimbal_rate_rad_s
    || outside p.singularity_eps

-- ---- answers

-- a map, or a refusal
abbrev pub Prepared : Type 0
Prepared = Result ActuatorMap Refusal

-- a refusal: its number and place
abbrev pub refused : ℕ → ℕ → Prepared
refused n place = Err (refusal n place)

-- the map so far
abbrev pub so_far : ActuatorMap → Prepared
so_far m = Ok m

-- the map, blank where it is refused
abbrev pub map_or_blank : Prepared → ActuatorMap
map_or_blank p = result_unwrap_or p blank_map

-- what `unit3` says of an actuator's axis decides: 3 where it refuses, else the map that f makes with the unit axis
abbrev pub placed : ℕ → Option (Float × Float × Float) → (Float → Float → Float → ActuatorMap) → Prepared
placed place None f = refused 3 place
placed place (Some (x, y, z)) f = so_far (f x y z)

-- one actuator's check: its numbers (2) before its axis (3)
abbrev pub checked : Bool → ℕ → Option (Float × Float × Float) → (Float → Float → Float → ActuatorMap) → Prepared
checked out place u f = cond out (refused 2 place) (placed place u f)

-- the next actuator's answer after p: a refused answer stays put
abbrev pub onward : Prepared → (ActuatorMap → Prepared) → Prepared
onward (Ok m) next = next m
onward (Err why) next = Err why

-- a flat table with axis k set to x, y, z
abbrev pub axis_set : List Float → ℕ → Float → Float → Float → List Float
axis_set t k x y z = set (set (set t (3 * k) x) (3 * k + 1) y) (3 * k + 2) z

-- ---- wheels, at places from 0

-- the map with wheel k in its tables, its axis x, y, z
unfoldable pub with_wheel : ActuatorMap → ℕ → Wheel → Float → Float → Float → ActuatorMap
with_wheel m k w x y z = record {
  wheel_count = m.wheel_count;
  thruster_count = m.thruster_count;
  cmgs = m.cmgs;
  wheel_axes = axis_set m.wheel_axes k x y z;
  wheel_torques = set m.wheel_torques k w.max_torque_nm;
  wheel_momenta = set m.wheel_momenta k w.max_momentum_nms;
  wheel_powers = set m.wheel_powers k w.max_power_w;
  thruster_axes = m.thruster_axes;
  thruster_torques = m.thruster_torques;
}

-- wheel k's check
unfoldable pub wheel_checked : ActuatorMap → ℕ → Wheel → Prepared
wheel_checked m k w = checked (wheel_outside w) k (unit3 w.axis) (with_wheel m k w)

-- wheel k after the actuators before it
unfoldable pub wheel_next : ℕ → Wheel → Prepared → Prepared
wheel_next k w p = onward p (λ m. wheel_checked m k w)

abbrev pub wheel_turn : List Wheel → ℕ → Prepared → Prepared
wheel_turn ws k p = wheel_next k (wheel_at ws k) p

-- the first n wheels
unfoldable pub wheels_checked : List Wheel → Prepared → ℕ → Prepared
wheels_checked ws p n = iter (wheel_turn ws) p n

-- ---- thrusters, at places from 8

-- the map with thruster k in its tables, its axis x, y, z
unfoldable pub with_thruster : ActuatorMap → ℕ → Thruster → Float → Float → Float → ActuatorMap
with_thruster m k t x y z = record {
  wheel_count = m.wheel_count;
  thruster_count = m.thruster_count;
  cmgs = m.cmgs;
  wheel_axes = m.wheel_axes;
  wheel_torques = m.wheel_torques;
  wheel_momenta = m.wheel_momenta;
  wheel_powers = m.wheel_powers;
  thruster_axes = axis_set m.thruster_axes k x y z;
  thruster_torques = set m.thruster_torques k t.max_torque_nm;
}

-- thruster k's check
unfoldable pub thruster_checked : ActuatorMap → ℕ → Thruster → Prepared
thruster_checked m k t = checked (outside t.max_torque_nm) (8 + k) (unit3 t.torque_axis) (with_thruster m k t)

-- thruster k after the actuators before it
unfoldable pub thruster_next : ℕ → Thruster → Prepared → Prepared
thruster_next k t p = onward p (λ m. thruster_checked m k t)

abbrev pub thruster_turn : List Thruster → ℕ → Prepared → Prepared
thruster_turn ts k p = thruster_next k (thruster_at ts k) p

-- the first n thrusters
unfoldable pub thrusters_checked : List Thruster → Prepared → ℕ → Prepared
thrusters_checked ts p n = iter (thruster_turn ts) p n

-- ---- the pyramid, at place 20

-- the pyramid's check: its numbers alone
abbrev pub check_cmgs : Option CmgPyramid → Fate
check_cmgs None = going
check_cmgs (Some p) = cond (pyramid_outside p) (Err (refusal 2 20)) going

abbrev pub under_cmgs : Fate → ActuatorMap → Prepared
under_cmgs (Ok _) m = so_far m
under_cmgs (Err why) m = Err why

abbrev pub cmgs_checked : Option CmgPyramid → ActuatorMap → Prepared
cmgs_checked c m = under_cmgs (check_cmgs c) m

-- the pyramid after the actuators before it
unfoldable pub cmgs_next : Option CmgPyramid → Prepared → Prepared
cmgs_next c p = onward p (cmgs_checked c)

-- ---- the whole

-- every actuator in its order, from a map whose tables hold +0 and Nothing alone: past the counts they still do
unfoldable pub filled : Actuators → Prepared
filled a =
    cmgs_next a.cmgs
    (thrusters_checked a.thrusters
    (wheels_checked a.wheels (so_far (unfilled a.wheel_count a.thruster_count a.cmgs)) a.wheel_count)
    a.thruster_count)

-- the map of what a user declares, or the first refusal: 1 for the counts (place 0 wheels, 1 thrusters), then 2 and 3 actuator by actuator
unfoldable pub prepare : Actuators → Prepared
prepare a = cond (ltb 8 a.wheel_count) (refused 1 0) (cond (ltb 12 a.thruster_count) (refused 1 1) (filled a))
