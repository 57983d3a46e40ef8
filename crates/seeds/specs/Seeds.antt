-- The seed's decision: its duration with its allocated and projected rows. Definitions only.
use Rattle.std.specs.Prelude.{ℕ, ◌+◌, ◌*◌, List, [], ◌∷◌, set, take, replicate, Float}
use Rattle.common.specs.Floats as Floats
use Rattle.common.specs.Iter.{iter}
use Rattle.common.specs.Lists.{at, pasted}
use Rattle.geom.specs.Vec as Vec
use Rattle.actuators.specs.Maps.{control_dim}
use Rattle.actuators.specs.Allocate.{allocate, row_or_zeros}
use Rattle.actuators.specs.declared.ActuatorMap.{ActuatorMap}
use Rattle.held_counts.specs.Counts.{held_counts}
use Rattle.forward.specs.Decisions.{project_turn}
use Rattle.common.specs.Refusals.{Fate, fate_of}

-- 8, and 6 at place 1: `allocate_body_torque` refuses the actuators. It does so whatever the torque is (SeedLaws), so that this is asked once, of no torque.
unfoldable pub served : ActuatorMap → Fate
served m = fate_of (allocate m Vec.zero3)

-- node k's torque, of three numbers a node
abbrev pub torque_at : List Float → ℕ → List Float
torque_at torques k = at torques (3 * k) ∷ at torques (3 * k + 1) ∷ at torques (3 * k + 2) ∷ []

-- the controls that give node k's torque
abbrev pub row_at : ActuatorMap → List Float → ℕ → List Float
row_at m torques k = row_or_zeros (allocate m (torque_at torques k))

-- row k
abbrev pub allocate_turn : ActuatorMap → List Float → ℕ → List Float → List Float
allocate_turn m torques k z = pasted z (1 + k * control_dim m) (1 + k * control_dim m + control_dim m) (take (control_dim m) (row_at m torques k))

-- the duration as it stands and the 16 rows, past which stands +0; torque 16 is not read
unfoldable pub allocated : ActuatorMap → Float → List Float → List Float
allocated m duration torques = iter (allocate_turn m torques) (set (replicate 193 Floats.plus_zero) 0 duration) 16

-- each control of the rows held to its limit
unfoldable pub seed_decision : ActuatorMap → List Float → Float → List Float → List Float
seed_decision m limit duration torques = iter (project_turn m limit) (allocated m duration torques) 16

-- how many of the allocated controls were held, place by place in a row
unfoldable pub seed_held : ActuatorMap → List Float → Float → List Float → List ℕ
seed_held m limit duration torques = held_counts m limit (allocated m duration torques)
