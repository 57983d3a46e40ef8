-- What a user declares, of the counts and numbers that the C interface takes. Definitions only.
--
-- Counts c: wheels, thrusters, a pyramid (1, else none), and for each of eight wheels whether it has a power limit (1, else none).
-- Numbers v: eight wheel axes, their torques, momenta, powers; twelve thruster axes, their torques; the pyramid's skew, momentum, rate, smallest measure.
-- Numbers b: q0, qf, the inertia by rows, the torque limits, the slew limit, six weights, the norm tolerance, the tie tolerance, eight wheels' start momenta.
use Rattle.std.specs.Prelude.{ℕ, ◌+◌, ◌*◌, Bool, cond, List, [], ◌∷◌, eqb, get_or, Float, Option, Some, None}
use Rattle.common.specs.Lists.{at}
use Rattle.geom.specs.Quats as Quats
use Rattle.actuators.specs.Prepare as Prepare
use Rattle.actuators.specs.declared.Wheel.{Wheel}
use Rattle.actuators.specs.declared.Thruster.{Thruster}
use Rattle.actuators.specs.declared.Actuators.{Actuators}
use Rattle.actuators.specs.declared.ActuatorMap.{ActuatorMap}
use Rattle.problem.specs.declared.Momenta.{Momenta}
use Rattle.problem.specs.declared.Problem.{Problem}
use Rattle.problem.specs.declared.Weights.{Weights}
use Rattle.export_leaves.specs.Packed.{limit}
use Rattle.actuators.specs.declared.CmgPyramid.{CmgPyramid}

-- count k
abbrev pub count : List ℕ → ℕ → ℕ
count c k = get_or c k 0

-- a wheel of its axis, torque, momentum, and its power if n is 1
unfoldable pub wheel_of : Float → Float → Float → Float → Float → ℕ → Float → Wheel
wheel_of x y z torque momentum n power = record {
  axis = x ∷ (y ∷ (z ∷ []));
  max_torque_nm = torque;
  max_momentum_nms = momentum;
  max_power_w = limit (eqb n 1) power;
}

-- wheel k of eight
abbrev pub wheel_at : List ℕ → List Float → ℕ → Wheel
wheel_at c v k = wheel_of (at v (3 * k)) (at v (3 * k + 1)) (at v (3 * k + 2)) (at v (24 + k)) (at v (32 + k)) (count c (3 + k)) (at v (40 + k))

-- all eight places of wheels
unfoldable pub wheels : List ℕ → List Float → List Wheel
wheels c v = let w = wheel_at c v in w 0 ∷ w 1 ∷ w 2 ∷ w 3 ∷ w 4 ∷ w 5 ∷ w 6 ∷ w 7 ∷ []

-- a thruster of its axis and torque
unfoldable pub thruster_of : Float → Float → Float → Float → Thruster
thruster_of x y z torque = record { torque_axis = x ∷ (y ∷ (z ∷ [])); max_torque_nm = torque }

-- thruster k of twelve
abbrev pub thruster_at : List Float → ℕ → Thruster
thruster_at v k = thruster_of (at v (48 + 3 * k)) (at v (48 + 3 * k + 1)) (at v (48 + 3 * k + 2)) (at v (84 + k))

-- all twelve places of thrusters
unfoldable pub thrusters : List Float → List Thruster
thrusters v = let t = thruster_at v in t 0 ∷ t 1 ∷ t 2 ∷ t 3 ∷ t 4 ∷ t 5 ∷ t 6 ∷ t 7 ∷ t 8 ∷ t 9 ∷ t 10 ∷ t 11 ∷ []

-- a pyramid, or none
abbrev pub cmgs_of : Bool → Float → Float → Float → Float → Option CmgPyramid
cmgs_of there skew momentum rate eps =
    cond there
    (Some (record { skew_rad = skew; wheel_momentum_nms = momentum; max_gimbal_rate_rad_s = rate; singularity_eps = eps }))
    None

-- all that is declared of actuators
unfoldable pub actuators : List ℕ → List Float → Actuators
actuators c v = record {
  wheels = wheels c v;
  wheel_count = count c 0;
  thrusters = thrusters v;
  thruster_count = count c 1;
  cmgs = cmgs_of (eqb (count c 2) 1) (at v 96) (at v 97) (at v 98) (at v 99);
}

-- the map that `prepare` makes of them, blank where it refuses
abbrev pub map : List ℕ → List Float → ActuatorMap
map c v = Prepare.map_or_blank (Prepare.prepare (actuators c v))

-- the six weights
abbrev pub weights : List Float → Weights
weights b = record { time = at b 21; control = at b 22; energy = at b 23; pointing = at b 24; smoothness = at b 25; momentum = at b 26 }

-- the wheels' start momenta: as many count as there are wheels
abbrev pub momenta : List ℕ → List Float → Momenta
momenta c b = record {
  count = count c 0;
  at = at b 29 ∷ at b 30 ∷ at b 31 ∷ at b 32 ∷ at b 33 ∷ at b 34 ∷ at b 35 ∷ at b 36 ∷ [];
}

-- a whole problem; with a slew limit or without
unfoldable pub problem : List ℕ → List Float → List Float → Bool → Problem
problem c v b limited = record {
  q0 = Quats.quat (at b 0) (at b 1) (at b 2) (at b 3);
  qf = Quats.quat (at b 4) (at b 5) (at b 6) (at b 7);
  inertia = at b 8 ∷ at b 9 ∷ at b 10 ∷ at b 11 ∷ at b 12 ∷ at b 13 ∷ at b 14 ∷ at b 15 ∷ at b 16 ∷ [];
  torque_limit = at b 17 ∷ at b 18 ∷ at b 19 ∷ [];
  slew = limit limited (at b 20);
  weights = weights b;
  norm_tolerance = at b 27;
  tie_tolerance = at b 28;
  actuators = actuators c v;
  momenta = momenta c b;
}
