-- What the laws of whole rows speak of: each control's limit, how many controls are held, and the map whose limits are the smaller ones of two maps. Definitions only.
use Rattle.std.specs.Prelude.{ℕ, ◌<◌, ◌≡◌, cond, List, [], ◌∷◌, length, Float, Option, Some, None}
use Rattle.common.specs.Lists.{at}
use Rattle.float.specs.Ops as Ops
use Rattle.actuators.specs.Maps.{gimbals, no_cmgs}
use Rattle.actuators.specs.declared.ActuatorMap.{ActuatorMap}
use Rattle.control_rows.specs.Parts.{width}
use Rattle.control_limits.specs.Limits.{limit_of, fewer}
use Rattle.controls.specs.Controls.{rig_of, row_fits_value}
use Rattle.limit_laws.specs.Holds.{Limit, Number}
use Rattle.actuators.specs.declared.CmgPyramid.{CmgPyramid}

-- control i's limit in a row of the map m; with no actuators it is the box's, axis by axis
abbrev pub row_limit : ActuatorMap → List Float → ℕ → Float
row_limit m box = limit_of (rig_of m) m.wheel_torques m.thruster_torques box

-- how many numbers of a row of n are held: none where the row is too short, so that `project_controls` leaves it as it is
abbrev pub held_of : ActuatorMap → ℕ → ℕ
held_of m n = cond (row_fits_value (rig_of m) 0 n) (fewer (width (rig_of m) (gimbals m.cmgs)) n) 0

-- the controls that are held in a row of n numbers have limits
abbrev pub Limited : ActuatorMap → List Float → ℕ → Type 0
Limited m box n = (i : ℕ) → i < held_of m n → Limit (row_limit m box i)

-- the controls of u that are held are no NaN
abbrev pub Numbers : ActuatorMap → List Float → Type 0
Numbers m u = (i : ℕ) → i < held_of m (length u) → Number (at u i)

-- ---- limits nested in limits

-- two maps of the same actuators, whatever their limits
pub record Alike (m k : ActuatorMap) : Type 0 where
  pub wheels : k.wheel_count ≡ m.wheel_count
  pub thrusters : k.thruster_count ≡ m.thruster_count
  pub pyramid : no_cmgs k.cmgs ≡ no_cmgs m.cmgs

-- the smaller number at each place; past the shorter table's end the longer one's
abbrev pub smaller : List Float → List Float → List Float
smaller [] b = b
smaller (x ∷ a) [] = x ∷ a
smaller (x ∷ a) (y ∷ b) = Ops.min x y ∷ smaller a b

-- the first pyramid with the smaller rate
abbrev pub slower : Option CmgPyramid → Option CmgPyramid → Option CmgPyramid
slower None d = None
slower (Some p) None = Some p
slower (Some p) (Some q) = Some (record {
  skew_rad = p.skew_rad;
  wheel_momentum_nms = p.wheel_momentum_nms;
  max_gimbal_rate_rad_s = Ops.min p.max_gimbal_rate_rad_s q.max_gimbal_rate_rad_s;
  singularity_eps = p.singularity_eps;
})

-- the map m with the smaller limit for each control; all else is m's
abbrev pub nested : ActuatorMap → ActuatorMap → ActuatorMap
nested m k = record {
  wheel_count = m.wheel_count;
  thruster_count = m.thruster_count;
  cmgs = slower m.cmgs k.cmgs;
  wheel_axes = m.wheel_axes;
  wheel_torques = smaller m.wheel_torques k.wheel_torques;
  wheel_momenta = m.wheel_momenta;
  wheel_powers = m.wheel_powers;
  thruster_axes = m.thruster_axes;
  thruster_torques = smaller m.thruster_torques k.thruster_torques;
}
