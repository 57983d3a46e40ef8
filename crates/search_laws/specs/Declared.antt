-- What the user declares, in the specification's words: controls per row, a control's limit. Definitions only.
use Rattle.std.specs.Prelude.{Bool, cond, ◌&&◌, ℕ, ◌+◌, ◌-◌, ◌<◌, T, eqb, ltb, Float}
use Rattle.std.specs.Float.{binary64}
use Rattle.std.specs.Float.Ieee.{fits}
use Rattle.common.specs.Lists.{at}
use Rattle.actuators.specs.Maps.{gimbals, no_cmgs, wheel_at, thruster_at}
use Rattle.actuators.specs.declared.Actuators.{Actuators}
use Rattle.control_limits.specs.Limits.{gimbal_rate}
use Rattle.problem.specs.declared.Problem.{Problem}
use Rattle.run_laws.specs.Values.{FitsQ}
use Rattle.run_laws.specs.Checked.{SlewFits}
use Rattle.search_laws.specs.Prepared.{FitsA}

-- ---- the specification's words
-- no actuators
abbrev pub none : Actuators → Bool
none a = eqb a.wheel_count 0 && eqb a.thruster_count 0 && no_cmgs a.cmgs

-- controls per row: 3 with no actuators, else wheels + thrusters + 4 for a pyramid
abbrev pub controls_of : Actuators → ℕ
controls_of a = cond (none a) 3 (a.wheel_count + a.thruster_count + gimbals a.cmgs)

-- control i's limit: the torque limit of its axis with no actuators, else its wheel's or thruster's torque, or the pyramid's rate
abbrev pub control_limit : Problem → ℕ → Float
control_limit p i =
    cond (none p.actuators) (at p.torque_limit i)
    (cond (ltb i p.actuators.wheel_count) (wheel_at p.actuators.wheels i).max_torque_nm
    (cond (ltb i (p.actuators.wheel_count + p.actuators.thruster_count)) (thruster_at p.actuators.thrusters (i - p.actuators.wheel_count)).max_torque_nm
    (gimbal_rate p.actuators.cmgs)))

-- wheel i's momentum
abbrev pub momentum_limit : Problem → ℕ → Float
momentum_limit p i = (wheel_at p.actuators.wheels i).max_momentum_nms

-- ---- a problem of f64s, as every problem in a program is
pub record Given (p : Problem) : Type 0 where
  pub q0 : FitsQ p.q0
  pub qf : FitsQ p.qf
  pub limit : (i : ℕ) → i < 3 → T (fits binary64 (at p.torque_limit i))
  pub slew : SlewFits p.slew
  pub tolerance : T (fits binary64 p.norm_tolerance)
  pub actuators : FitsA p.actuators
  pub momenta : (i : ℕ) → T (fits binary64 (at p.momenta.at i))
