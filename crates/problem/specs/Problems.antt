-- Checks 1 to 6 and 22, and the problem that passed them. Definitions only.
use Rattle.std.specs.Prelude.{ℕ, Bool, true, false, not, cond, ◌&&◌, List, replicate, Float, Option, Some, None, Ok, Err}
use Rattle.std.specs.Float.Ieee.{lt}
use Rattle.std.specs.Float.Ieee.Scale.{finite}
use Rattle.common.specs.Floats.{one, plus_zero}
use Rattle.common.specs.Lists.{at}
use Rattle.geom.specs.declared.Quat.{Quat}
use Rattle.geom.specs.Vec.{is_positive_value, tensor}
use Rattle.geom.specs.Quats.{normalized}
use Rattle.geom.specs.Tensors.{invert_spd}
use Rattle.actuators.specs.declared.ActuatorMap.{ActuatorMap}
use Rattle.actuators.specs.Maps.{blank_map}
use Rattle.actuators.specs.Prepare.{Prepared, prepare}
use Rattle.problem.specs.declared.Weights.{Weights}
use Rattle.problem.specs.declared.Problem.{Problem}
use Rattle.problem.specs.declared.CheckedProblem.{CheckedProblem}
use Rattle.problem.specs.declared.Checked.{Checked}
use Rattle.problem.specs.Starts.{check_starts, placed}
use Rattle.common.specs.Refusals.{Fate, refusal, going}
use Rattle.std.specs.Prelude.{Result}
use Rattle.common.specs.declared.Refusal.{Refusal}

-- ---- row 4 of the table
-- a limit is absent, or finite and above 0
abbrev pub limit_fits : Option Float → Bool
limit_fits None = true
limit_fits (Some x) = is_positive_value x

-- finite and not below 0
abbrev pub weight_fits : Float → Bool
weight_fits x = finite x && not (lt x plus_zero)

unfoldable pub weights_fit : Weights → Bool
weights_fit w = weight_fits w.time && weight_fits w.control && weight_fits w.energy && weight_fits w.pointing && weight_fits w.smoothness && weight_fits w.momentum

-- strictly inside 0..1
abbrev pub tolerance_fits : Float → Bool
tolerance_fits x = lt plus_zero x && lt x one

abbrev pub limits_fit : List Float → Bool
limits_fit limit = is_positive_value (at limit 0) && is_positive_value (at limit 1) && is_positive_value (at limit 2)

unfoldable pub numbers_fit : Problem → Bool
numbers_fit p =
    limits_fit p.torque_limit
    && limit_fits p.slew
    && weights_fit p.weights
    && tolerance_fits p.norm_tolerance
    && tolerance_fits p.tie_tolerance

-- ---- the checks, last first
abbrev blank_q : Quat
blank_q = record { w = plus_zero; x = plus_zero; y = plus_zero; z = plus_zero }

-- the problem of a refused check
abbrev pub blank_problem : CheckedProblem
blank_problem = record {
  q0 = blank_q;
  qf = blank_q;
  inertia = replicate 9 plus_zero;
  inverse = replicate 9 plus_zero;
  torque_limit = replicate 3 plus_zero;
  slew = None;
  weights = record { time = plus_zero; control = plus_zero; energy = plus_zero; pointing = plus_zero; smoothness = plus_zero; momentum = plus_zero };
  norm_tolerance = plus_zero;
  tie_tolerance = plus_zero;
  map = blank_map;
  momenta = replicate 8 plus_zero;
}

abbrev pub refused : ℕ → ℕ → Checked
refused number place = record { fate = Err (refusal number place); problem = blank_problem }

-- 6 at place 0: the inertia is not positive definite, or not invertible
abbrev pub inverted_by : Result (List Float) Refusal → Problem → ActuatorMap → Quat → Quat → Checked
inverted_by (Err why) p map q0 qf = refused 6 0
inverted_by (Ok m) p map q0 qf = record {
  fate = going;
  problem = record {
    q0 = q0;
    qf = qf;
    inertia = p.inertia;
    inverse = m;
    torque_limit = p.torque_limit;
    slew = p.slew;
    weights = p.weights;
    norm_tolerance = p.norm_tolerance;
    tie_tolerance = p.tie_tolerance;
    map = map;
    momenta = placed map.wheel_count p.momenta.at;
  };
}

unfoldable pub with_attitudes : Problem → ActuatorMap → Quat → Quat → Checked
with_attitudes p map q0 qf = inverted_by (invert_spd (tensor p.inertia)) p map q0 qf

-- 5: `normalized` refuses q0 (place 0) or qf (place 1)
abbrev pub final_by : Option Quat → Problem → ActuatorMap → Quat → Checked
final_by None p map q0 = refused 5 1
final_by (Some qf) p map q0 = with_attitudes p map q0 qf

abbrev pub start_by : Option Quat → Problem → ActuatorMap → Checked
start_by None p map = refused 5 0
start_by (Some q0) p map = final_by (normalized p.norm_tolerance p.qf) p map q0

unfoldable pub with_starts : Problem → ActuatorMap → Checked
with_starts p map = start_by (normalized p.norm_tolerance p.q0) p map

-- 22: a wheel's start
abbrev pub momenta_by : Fate → Problem → ActuatorMap → Checked
momenta_by (Err why) p map = refused why.number why.place
momenta_by (Ok _) p map = with_starts p map

-- 4, then 22
unfoldable pub with_map : Problem → ActuatorMap → Checked
with_map p map = cond (numbers_fit p) (momenta_by (check_starts map.wheel_count map.wheel_momenta p.momenta) p map) (refused 4 0)

-- 1, 2 and 3: `prepare` refuses
abbrev pub prepared_by : Prepared → Problem → Checked
prepared_by (Err why) p = refused why.number why.place
prepared_by (Ok map) p = with_map p map

unfoldable pub check : Problem → Checked
check p = prepared_by (prepare p.actuators) p
