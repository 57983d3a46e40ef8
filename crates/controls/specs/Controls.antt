-- The operations on control rows that the specification names, over whole maps. They take every map and every row. A map whose counts pass its tables, and a row
-- that is too short where the Rust would panic, have no meaning in the specification: the answer there is free, and is said to be so at its place. Definitions only.
use Rattle.std.specs.Prelude.{ℕ, Bool, cond, ◌&&◌, List, leb, length, replicate, Float, Option, Some, None, Result, Ok, Err}
use Rattle.common.specs.Floats.{plus_zero}
use Rattle.common.specs.Lists.{at}
use Rattle.geom.specs.Vec.{zero3}
use Rattle.actuators.specs.Maps.{gimbals}
use Rattle.actuators.specs.Pyramid.{Jacobian, pyramid_a}
use Rattle.actuators.specs.declared.ActuatorMap.{ActuatorMap}
use Rattle.control_rows.specs.Stored.{stored}
use Rattle.control_rows.specs.Parts as Parts
use Rattle.control_limits.specs.Limits as Limits
use Rattle.control_rows.specs.declared.Rig.{Rig}
use Rattle.control_rows.specs.declared.WheelLaw.{WheelLaw}
use Rattle.control_rows.specs.declared.WheelLaw.TheVariants.{Once}
use Rattle.actuators.specs.declared.CmgPyramid.{CmgPyramid}
use Rattle.common.specs.declared.Refusal.{Refusal}
use Rattle.common.specs.Refusals.{refusal}
use Rattle.std.specs.Result.{result_unwrap_or}

-- The wheels that a list of n numbers reaches: a list may be shorter than the wheels, and what it lacks is not looked at. Of a count beyond the tables none is
-- reached (free).
unfoldable pub paired : ℕ → ℕ → ℕ
paired count n = cond (leb count 8) (Limits.fewer count n) 0

-- control k as wheel k's rate of momentum
abbrev pub rate_of : List Float → ℕ → Float → Float
rate_of u k x = at u k

-- each wheel's rate of momentum is its control; +0 where the row has none, and past the wheels
unfoldable pub wheel_momentum_rates : ActuatorMap → List Float → List Float
wheel_momentum_rates m u = stored (rate_of u) (replicate 8 plus_zero) (paired m.wheel_count (length u))

-- the sum of the wheels' axes, each scaled by its momentum, from +0
unfoldable pub body_momentum : ActuatorMap → List Float → List Float
body_momentum m hw = Parts.body_momentum m.wheel_axes (paired m.wheel_count (length hw)) hw

-- by how much a wheel's momentum passes its limit at most
unfoldable pub momentum_excess : ActuatorMap → List Float → Float
momentum_excess m hw = Limits.momentum_excess m.wheel_momenta (paired m.wheel_count (length hw)) hw

-- By how much a wheel's power passes its declared limit at most, for the row u at rate w. The Rust panics where the row lacks the control of a wheel with a
-- declared power: free, such a wheel is not looked at.
unfoldable pub power_excess : ActuatorMap → List Float → List Float → Float
power_excess m u w = Limits.power_excess m.wheel_axes m.wheel_powers (paired m.wheel_count (length u)) u w

-- which actuators a map has, under a law of the wheels' torque
abbrev pub rig_under : WheelLaw → ActuatorMap → Rig
rig_under law m = record { wheel_count = m.wheel_count; thruster_count = m.thruster_count; cmgs = m.cmgs; law = law }

-- the same under the law that every operation but the comparison has
abbrev pub rig_of : ActuatorMap → Rig
rig_of m = rig_under Once m

-- the counts are within the tables, and n numbers are as wide as a row with g gimbal rates
unfoldable pub row_fits_value : Rig → ℕ → ℕ → Bool
row_fits_value r g n = leb r.wheel_count 8 && leb r.thruster_count 12 && leb (Parts.width r g) n

-- The row u with each control held to its limit. A row without its wheel or thruster part, or without three torques where there are no actuators, stays as it
-- is (free).
unfoldable pub project_controls : ActuatorMap → List Float → List Float → List Float
project_controls m box u =
    cond (row_fits_value (rig_of m) 0 (length u)) (Limits.projected (rig_of m) m.wheel_torques m.thruster_torques box u) u

-- the pyramid's matrix at the gimbal angles d, or 11; without a pyramid twelve +0 that nothing reads
abbrev pub matrix : Option CmgPyramid → List Float → Jacobian
matrix None d = Ok (replicate 12 plus_zero)
matrix (Some p) d = pyramid_a p.skew_rad d

-- the torque of a row, or its refusal
abbrev pub Torque : Type 0
Torque = Result (List Float) Refusal

-- a torque, +0 where it is refused
abbrev pub torque_or_zeros : Torque → List Float
torque_or_zeros t = result_unwrap_or t zero3

-- a torque by the pyramid's matrix, or the refusal of the matrix
abbrev pub torque_by : Jacobian → (List Float → List Float) → Torque
torque_by (Ok a) tau = Ok (tau a)
torque_by (Err why) tau = Err why

-- How a row that is too short ends. With no actuators the Rust says "wrong width", for which the specification has no number of its own: 8. With actuators the
-- Rust panics, and a count beyond the tables has no meaning: free, it gives three +0.
abbrev pub short_row_value : Rig → Torque
short_row_value r = cond (Parts.bare r) (Err (refusal 8 0)) (Ok zero3)

-- The torque of the row u at rate w, stored momentum h and gimbal angles d; 11 where an angle is outside. A row that is too short gives 8
-- with no actuators, else three +0.
unfoldable pub body_torque : ActuatorMap → List Float → List Float → List Float → List Float → Torque
body_torque m u w h d =
    cond (row_fits_value (rig_of m) (gimbals m.cmgs) (length u))
    (torque_by (matrix m.cmgs d) (Parts.row_torque (rig_of m) m.wheel_axes m.thruster_axes u w h))
    (short_row_value (rig_of m))
