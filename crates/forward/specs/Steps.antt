-- The step law, as `reconstruct` of scvx.rs has it: one step in stages, each handed what the one before worked out. Definitions only.
use Rattle.std.specs.Prelude.{ℕ, ◌+◌, List, [], ◌∷◌, Bool, true, false, cond, length, replicate, Float, Option, Some, None, Result, Ok, Err}
use Rattle.std.specs.Float.{binary64}
use Rattle.std.specs.Float.Ieee.{add, mul, lt, of_bits}
use Rattle.common.specs.Floats as Floats
use Rattle.common.specs.Lists.{at, slice}
use Rattle.geom.specs.Vec as Vec
use Rattle.geom.specs.Quats.{quat_mul, norm3, exp_so3, normalized}
use Rattle.geom.specs.declared.Quat.{Quat}
use Rattle.actuators.specs.Pyramid.{Jacobian, pyramid_a, singularity_of}
use Rattle.actuators.specs.declared.CmgPyramid.{CmgPyramid}
use Rattle.control_rows.specs.Parts as Parts
use Rattle.control_rows.specs.Parts.{row_torque, momenta_next}
use Rattle.control_limits.specs.Limits.{power_excess}
use Rattle.control_rows.specs.declared.Rig.{Rig}
use Rattle.forward.specs.declared.Frame.{Frame}
use Rattle.forward.specs.declared.Body.{Body}
use Rattle.forward.specs.declared.BodyState.{BodyState}
use Rattle.forward.specs.declared.GimbalStep.{GimbalStep}
use Rattle.forward.specs.declared.Stepped.{Stepped}
use Rattle.common.specs.declared.Refusal.{Refusal}
use Rattle.common.specs.Refusals.{Fate, refusal, going}

-- what no step of a run changes, by its parts
abbrev pub body_with : Rig → List Float → List (Option Float) → List Float → Frame → Body
body_with r wheels powers thrusters f = record { rig = r; wheels = wheels; powers = powers; thrusters = thrusters; frame = f }

-- a step that ends the run: the state as it was, no torque
abbrev pub stop : ℕ → ℕ → BodyState → Stepped
stop n place s = record { fate = Err (refusal n place); s = s; tau = Vec.zero3; defect = Floats.plus_zero }

-- ---- what the stages work out

-- the pyramid's matrix at the gimbal angles d; with no pyramid nothing reads it
abbrev pub matrix_at : Option CmgPyramid → List Float → Jacobian
matrix_at None d = Ok (replicate 12 Floats.plus_zero)
matrix_at (Some p) d = pyramid_a p.skew_rad d

-- the rate's change by Euler's equations: J w' = tau - w × (J w + h)
unfoldable pub rate_dot : List Float → List Float → List Float → List Float → List Float → List Float
rate_dot j jinv w h tau = Vec.apply_tensor (Vec.tensor jinv) (Vec.sub3 tau (Vec.euler_lhs (Vec.tensor j) Vec.zero3 w h))

-- the rate at the step's end
unfoldable pub rate_next : List Float → List Float → Float → List Float
rate_next w wd dt = Vec.add3 w (Vec.scale3 wd dt)

-- the defect: the length of what Euler's equations miss
unfoldable pub defect_of : List Float → List Float → List Float → List Float → List Float → Float
defect_of j w h tau wd = norm3 (Vec.sub3 (Vec.euler_lhs (Vec.tensor j) wd w h) tau)

-- the turn of the step: the mean of both rates, times the time
unfoldable pub turn_of : List Float → List Float → Float → List Float
turn_of w w2 dt = Vec.scale3 (Vec.scale3 (Vec.add3 w w2) Vec.half) dt

-- the gimbals d after a time dt at the rates u
abbrev pub gimbals_next : List Float → List Float → Float → List Float
gimbals_next u d dt =
    add binary64 (at d 0) (mul binary64 (at u 0) dt)
    ∷ add binary64 (at d 1) (mul binary64 (at u 1) dt)
    ∷ add binary64 (at d 2) (mul binary64 (at u 2) dt)
    ∷ add binary64 (at d 3) (mul binary64 (at u 3) dt)
    ∷ []

-- the gimbal part of the row u
abbrev pub gimbal_row : Rig → List Float → List Float
gimbal_row r u = slice (r.wheel_count + r.thruster_count) (length u) u

-- the wheels' momenta at the step's end, and the body momentum that they make
unfoldable pub wheel_momenta_value : Body → List Float → BodyState → List Float
wheel_momenta_value b u s = momenta_next b.rig.wheel_count s.hw (slice 0 b.rig.wheel_count u) b.frame.dt

unfoldable pub body_momentum : Body → List Float → List Float
body_momentum b hw = Parts.body_momentum b.wheels b.rig.wheel_count hw

-- ---- the gimbals after the step: 11 where an angle is over 1,024, 12 where the pyramid is singular there
abbrev pub refuse_gimbals : ℕ → ℕ → Result GimbalStep Refusal
refuse_gimbals n k = Err (refusal n k)

abbrev pub gimbals_by : Jacobian → CmgPyramid → List Float → ℕ → Result GimbalStep Refusal
gimbals_by (Err why) p d k = refuse_gimbals 11 k
gimbals_by (Ok a) p d k = cond (lt (singularity_of a) p.singularity_eps) (refuse_gimbals 12 k) (Ok (record { delta = d; a = a }))

abbrev pub swing_by : Option CmgPyramid → List Float → List Float → Float → ℕ → Result GimbalStep Refusal
swing_by None u d dt k = Ok (record { delta = d; a = replicate 12 Floats.plus_zero })
swing_by (Some p) u d dt k = gimbals_by (pyramid_a p.skew_rad (gimbals_next u d dt)) p (gimbals_next u d dt) k

unfoldable pub step_gimbals : Option CmgPyramid → List Float → List Float → Float → ℕ → Result GimbalStep Refusal
step_gimbals c u d dt k = swing_by c u d dt k

-- ---- the stages, last first: power (13), singularity (11, 12), attitude (11, then 5 at place 2), torque (11)
abbrev pub state_next : Body → List Float → BodyState → List Float → Quat → List Float → BodyState
state_next b u s w2 q2 d = record {
  q = q2;
  w = w2;
  h = body_momentum b (wheel_momenta_value b u s);
  hw = wheel_momenta_value b u s;
  delta = d;
}

-- 1e-9
abbrev pub slack : Float
slack = of_bits binary64 0x3e11_2e0b_e826_d695

unfoldable pub powered : Body → List Float → ℕ → BodyState → List Float → Float → List Float → Quat → List Float → Stepped
powered b u k s tau defect w2 q2 d =
    cond (lt slack (power_excess b.wheels b.powers b.rig.wheel_count (slice 0 b.rig.wheel_count u) s.w)) (stop 13 k s)
    (record { fate = going; s = state_next b u s w2 q2 d; tau = tau; defect = defect })

abbrev pub gimbals_step : Result GimbalStep Refusal → Body → List Float → ℕ → BodyState → List Float → Float → List Float → Quat → Stepped
gimbals_step (Err why) b u k s tau defect w2 q2 = stop why.number why.place s
gimbals_step (Ok g) b u k s tau defect w2 q2 = powered b u k s tau defect w2 q2 g.delta

-- with the attitude q2 at the end
unfoldable pub attitude_step : Body → List Float → ℕ → BodyState → List Float → Float → List Float → Quat → Stepped
attitude_step b u k s tau defect w2 q2 =
    gimbals_step (step_gimbals b.rig.cmgs (gimbal_row b.rig u) s.delta b.frame.dt k) b u k s tau defect w2 q2

abbrev pub normed_step : Option Quat → Body → List Float → ℕ → BodyState → List Float → Float → List Float → Stepped
normed_step None b u k s tau defect w2 = stop 5 2 s
normed_step (Some q2) b u k s tau defect w2 = attitude_step b u k s tau defect w2 q2

abbrev pub turned_step : Option Quat → Body → List Float → ℕ → BodyState → List Float → Float → List Float → Stepped
turned_step None b u k s tau defect w2 = stop 11 k s
turned_step (Some e) b u k s tau defect w2 = normed_step (normalized b.frame.tolerance (quat_mul s.q e)) b u k s tau defect w2

-- with the torque tau and the rate's change wd
unfoldable pub rated_step : Body → List Float → ℕ → BodyState → List Float → List Float → Stepped
rated_step b u k s tau wd =
    turned_step (exp_so3 (turn_of s.w (rate_next s.w wd b.frame.dt) b.frame.dt)) b u k s tau (defect_of b.frame.j s.w s.h tau wd) (rate_next s.w wd b.frame.dt)

-- with the torque tau
unfoldable pub torqued_step : Body → List Float → ℕ → BodyState → List Float → Stepped
torqued_step b u k s tau = rated_step b u k s tau (rate_dot b.frame.j b.frame.jinv s.w s.h tau)

abbrev pub matrix_step : Jacobian → Body → List Float → ℕ → BodyState → Stepped
matrix_step (Err why) b u k s = stop 11 k s
matrix_step (Ok a) b u k s = torqued_step b u k s (row_torque b.rig b.wheels b.thrusters u s.w s.h a)

-- step k with the control row u from the state s; torque from rate, momentum and gimbals at the step's start
unfoldable pub step : Body → List Float → ℕ → BodyState → Stepped
step b u k s = matrix_step (matrix_at b.rig.cmgs s.delta) b u k s
