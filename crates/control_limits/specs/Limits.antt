-- Limits of controls, momenta and powers: a row held to its limits, and by how much a limit is passed. As in actuators.rs. Definitions only.
use Rattle.std.specs.Prelude.{ℕ, ◌+◌, ◌-◌, Bool, cond, List, ltb, get_or, length, Float, Option, Some, None}
use Rattle.std.specs.Float.{binary64}
use Rattle.std.specs.Float.Ieee.{mul, sub, neg, lt}
use Rattle.common.specs.Floats.{plus_zero}
use Rattle.common.specs.Iter.{iter}
use Rattle.common.specs.Lists.{at}
use Rattle.float.specs.Ops.{abs, max, clamp}
use Rattle.geom.specs.Vec.{dot3}
use Rattle.actuators.specs.Maps.{axis_at, gimbals, no_power_value}
use Rattle.control_rows.specs.Stored.{stored}
use Rattle.control_rows.specs.Parts.{bare, width}
use Rattle.control_limits.specs.declared.Held.{Held}
use Rattle.control_rows.specs.declared.Rig.{Rig}
use Rattle.actuators.specs.declared.CmgPyramid.{CmgPyramid}

-- ---- projection

-- One control held to its limit. The Rust panics at a limit that is NaN or below 0: there the answer is free.
unfoldable pub hold : Float → Float → Float
hold limit x = clamp (neg limit) limit x

-- Whether that changes it: it is larger in size than its limit. An infinity is; a NaN, and a control equal to its limit, are not.
abbrev pub changed : Float → Float → Bool
changed limit x = lt limit (abs x)

-- the number, and whether it was changed
abbrev pub holding : Float → Float → Held
holding limit x = record { x = hold limit x; changed = changed limit x }

-- control k held to its limit
abbrev pub hold_at : (ℕ → Float) → ℕ → Float → Float
hold_at limit k x = hold (limit k) x

-- the limit of a gimbal's rate; without a pyramid nothing is held to it
abbrev pub gimbal_rate : Option CmgPyramid → Float
gimbal_rate None = plus_zero
gimbal_rate (Some p) = p.max_gimbal_rate_rad_s

-- control k's limit in a row of parts: its wheel's torque, its thruster's torque or the pyramid's rate
abbrev pub part_limit_value : Rig → List Float → List Float → ℕ → Float
part_limit_value r wheels thrusters k =
    cond (ltb k r.wheel_count) (at wheels k)
    (cond (ltb k (r.wheel_count + r.thruster_count)) (at thrusters (k - r.wheel_count)) (gimbal_rate r.cmgs))

-- the limits of a row's controls: with no actuators those of the body torques, axis by axis
unfoldable pub limit_of : Rig → List Float → List Float → List Float → ℕ → Float
limit_of r wheels thrusters box = cond (bare r) (at box) (part_limit_value r wheels thrusters)

-- the smaller of two counts
abbrev pub fewer : ℕ → ℕ → ℕ
fewer a b = cond (ltb a b) a b

-- the parts of the row u, each control held to its limit
abbrev pub parts_held_value : Rig → List Float → List Float → List Float → List Float
parts_held_value r wheels thrusters u =
    stored (hold_at (part_limit_value r wheels thrusters)) u (fewer (r.wheel_count + r.thruster_count + gimbals r.cmgs) (length u))

-- the row u with each control held to its limit; gimbal rates that the row lacks are passed over
unfoldable pub projected : Rig → List Float → List Float → List Float → List Float → List Float
projected r wheels thrusters box u =
    stored (hold_at (limit_of r wheels thrusters box)) u (fewer (width r (gimbals r.cmgs)) (length u))

-- ---- excesses

-- the larger of e and the size of x less its limit; a NaN gives way, and where there is no limit e stays
abbrev pub larger_excess : Option Float → Float → Float → Float
larger_excess None x e = e
larger_excess (Some limit) x e = max e (sub binary64 (abs x) limit)

-- number k is looked at
abbrev pub excess_turn : (ℕ → Option Float) → (ℕ → Float) → ℕ → Float → Float
excess_turn limit x k e = larger_excess (limit k) (x k) e

-- by how much the first n numbers pass their limits at most; +0 where none does
abbrev pub excess : (ℕ → Option Float) → (ℕ → Float) → ℕ → Float
excess limit x n = iter (excess_turn limit x) plus_zero n

-- number k of a table as a limit
abbrev pub limit_at : List Float → ℕ → Option Float
limit_at limits k = Some (at limits k)

-- the momenta hw against the limits of n wheels
unfoldable pub momentum_excess : List Float → ℕ → List Float → Float
momentum_excess limits n hw = excess (limit_at limits) (at hw) n

-- the power of wheel k: its control times the rate about its axis
abbrev pub power : List Float → List Float → List Float → ℕ → Float
power axes u w k = mul binary64 (at u k) (dot3 w (axis_at axes k))

-- the power limit of wheel k, if it has one
abbrev pub power_limit : List (Option Float) → ℕ → Option Float
power_limit powers k = get_or powers k no_power_value

-- the powers of n wheels under the controls u at rate w against the limits that are declared
unfoldable pub power_excess : List Float → List (Option Float) → ℕ → List Float → List Float → Float
power_excess axes powers n u w = excess (power_limit powers) (power axes u w) n
