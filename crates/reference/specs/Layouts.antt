-- The actuators in one table. Definitions only.
use Rattle.std.specs.Prelude.{ℕ, true, false, cond, List, [], ◌∷◌, eqb, ltb, get_or, replicate, set, Float, Option, Some, None, Result, Ok, Err}
use Rattle.std.specs.Float.{binary64}
use Rattle.std.specs.Float.Ieee.{of_bits}
use Rattle.common.specs.Floats.{one, plus_zero}
use Rattle.common.specs.Lists.{at}
use Rattle.actuators.specs.Maps.{no_power_value}
use Rattle.actuators.specs.declared.ActuatorMap.{ActuatorMap}
use Rattle.control_rows.specs.Stored.{stored}
use Rattle.reference.specs.declared.layout.Layout.{Layout}
use Rattle.actuators.specs.declared.CmgPyramid.{CmgPyramid}
use Rattle.common.specs.Refusals.{refusal}
use Rattle.common.specs.declared.Refusal.{Refusal}

abbrev pub copy_at : List Float → ℕ → Float → Float
copy_at t k x = at t k

-- 24 numbers, then zeros
unfoldable pub pad_axes : List Float → List Float
pad_axes t = stored (copy_at t) (replicate 36 plus_zero) 24

-- eight numbers, then four zeros
abbrev pub pad_to_twelve : List Float → List Float
pad_to_twelve v = at v 0 ∷ at v 1 ∷ at v 2 ∷ at v 3 ∷ at v 4 ∷ at v 5 ∷ at v 6 ∷ at v 7 ∷ plus_zero ∷ plus_zero ∷ plus_zero ∷ plus_zero ∷ []

-- a wheel's power limit; the largest f64 where none is declared
abbrev pub power_limit : Option Float → Float
power_limit None = of_bits binary64 0x7fef_ffff_ffff_ffff
power_limit (Some x) = x

abbrev power_limit_at : List (Option Float) → ℕ → Float
power_limit_at powers k = power_limit (get_or powers k no_power_value)

-- the power limits of eight wheels, then four zeros
unfoldable pub power_limits_value : List (Option Float) → List Float
power_limits_value p =
    power_limit_at p 0
    ∷ power_limit_at p 1
    ∷ power_limit_at p 2
    ∷ power_limit_at p 3
    ∷ power_limit_at p 4
    ∷ power_limit_at p 5
    ∷ power_limit_at p 6
    ∷ power_limit_at p 7
    ∷ plus_zero
    ∷ plus_zero
    ∷ plus_zero
    ∷ plus_zero
    ∷ []

-- the body's axes
unfoldable pub body_axes : List Float
body_axes = set (set (set (replicate 36 plus_zero) 0 one) 4 one) 8 one

-- the torque box
abbrev pub body_limits : List Float → List Float
body_limits v =
    at v 0 ∷ at v 1 ∷ at v 2 ∷ plus_zero ∷ plus_zero ∷ plus_zero ∷ plus_zero ∷ plus_zero ∷ plus_zero ∷ plus_zero ∷ plus_zero ∷ plus_zero ∷ []

unfoldable pub wheel_layout : ActuatorMap → List Float → Layout
wheel_layout m momenta = record {
  wheels = true;
  count = m.wheel_count;
  axes = pad_axes m.wheel_axes;
  limits = pad_to_twelve m.wheel_torques;
  momentum_limits = pad_to_twelve m.wheel_momenta;
  power_limits = power_limits_value m.wheel_powers;
  start = pad_to_twelve momenta;
}

unfoldable pub thruster_layout : ℕ → List Float → List Float → Layout
thruster_layout n axes limits = record {
  wheels = false;
  count = n;
  axes = axes;
  limits = limits;
  momentum_limits = replicate 12 plus_zero;
  power_limits = replicate 12 plus_zero;
  start = replicate 12 plus_zero;
}

-- a table, or a refusal
abbrev pub Made : Type 0
Made = Result Layout Refusal

abbrev pub no_layout : ℕ → ℕ → Made
no_layout n k = Err (refusal n k)

-- without wheels: the thrusters, or the body's own torques
unfoldable pub without_wheels : ActuatorMap → List Float → Made
without_wheels m box =
    cond (eqb m.thruster_count 0) (Ok (thruster_layout 3 body_axes (body_limits box)))
    (cond (ltb m.thruster_count 3) (no_layout 6 1) (Ok (thruster_layout m.thruster_count m.thruster_axes m.thruster_torques)))

-- with wheels: alone, and three or more
unfoldable pub with_wheels : ActuatorMap → List Float → Made
with_wheels m momenta = cond (ltb 0 m.thruster_count) (no_layout 8 0) (cond (ltb m.wheel_count 3) (no_layout 6 1) (Ok (wheel_layout m momenta)))

unfoldable pub axes_layout : ActuatorMap → List Float → List Float → Made
axes_layout m momenta box = cond (eqb m.wheel_count 0) (without_wheels m box) (with_wheels m momenta)

abbrev pub layout_by : Option CmgPyramid → ActuatorMap → List Float → List Float → Made
layout_by (Some p) m momenta box = no_layout 8 0
layout_by None m momenta box = axes_layout m momenta box

unfoldable pub layout_of : ActuatorMap → List Float → List Float → Made
layout_of m momenta box = layout_by m.cmgs m momenta box
