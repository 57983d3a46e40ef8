-- A forward run: one `reconstruct`, 16 steps and 17 nodes (SOLVER_NODES). Definitions only.
use Rattle.std.specs.Prelude.{ℕ, ◌+◌, List, [], get_or, set, replicate, pos, Float, Ok, Err}
use Rattle.std.specs.Float.{nan, binary64}
use Rattle.std.specs.Float.Ieee.{mul, of_int}
use Rattle.common.specs.Floats as Floats
use Rattle.common.specs.Iter.{iter}
use Rattle.float.specs.Ops.{max}
use Rattle.geom.specs.Vec as Vec
use Rattle.geom.specs.declared.Quat.{Quat}
use Rattle.actuators.specs.Maps.{control_dim}
use Rattle.control_rows.specs.Parts.{body_momentum}
use Rattle.controls.specs.Controls.{rig_under}
use Rattle.control_rows.specs.declared.WheelLaw.{WheelLaw}
use Rattle.control_rows.specs.declared.WheelLaw.TheVariants.{Once}
use Rattle.problem.specs.declared.CheckedProblem.{CheckedProblem}
use Rattle.forward.specs.Decisions.{row_of, step_time}
use Rattle.forward.specs.Steps.{body_with, step}
use Rattle.forward.specs.declared.Body.{Body}
use Rattle.forward.specs.declared.Frame.{Frame}
use Rattle.forward.specs.declared.BodyState.{BodyState}
use Rattle.forward.specs.declared.Stepped.{Stepped}
use Rattle.forward.specs.declared.Node.{Node}
use Rattle.forward.specs.declared.Run.{Run}
use Rattle.common.specs.Refusals.{Fate, refusal, going}

-- The start of a run: at q0, at rest, n wheels with the momenta hw and the body momentum that they make, the gimbals at +0.
unfoldable pub start : List Float → ℕ → Quat → List Float → BodyState
start axes n q0 hw = record { q = q0; w = Vec.zero3; h = body_momentum axes n hw; hw = hw; delta = replicate 4 Floats.plus_zero }

-- node k: the state at its time k × dt, with the torque tau
unfoldable pub node_of : Float → ℕ → BodyState → List Float → Node
node_of dt k s tau = record { t = mul binary64 (of_int binary64 (pos k)) dt; q = s.q; w = s.w; tau = tau; h = s.h; hw = s.hw }

abbrev pub blank_node : Node
blank_node = record { t = Floats.plus_zero; q = record { w = Floats.plus_zero; x = Floats.plus_zero; y = Floats.plus_zero; z = Floats.plus_zero }; w = Vec.zero3; tau = Vec.zero3; h = Vec.zero3; hw = replicate 8 Floats.plus_zero }

-- no node: what stands past the end of a list of nodes
abbrev pub no_node : Node
no_node = record { t = nan; q = record { w = nan; x = nan; y = nan; z = nan }; w = []; tau = []; h = []; hw = [] }

-- node k of a list; what stands past its end, no answer depends on
abbrev pub node_at : List Node → ℕ → Node
node_at ns k = get_or ns k no_node

-- a run on its way: how it stands, the state after the steps so far, the largest defect, the nodes
pub record Rollout : Type 0 where
  pub fate : Fate
  pub s : BodyState
  pub defect : Float
  pub nodes : List Node

-- the rollout after step k, which gave g; `max` drops a NaN defect
unfoldable pub advance : Float → ℕ → Rollout → Stepped → Rollout
advance dt k c g = record { fate = g.fate; s = g.s; defect = max c.defect g.defect; nodes = set c.nodes k (node_of dt k c.s g.tau) }

-- a rollout that was refused stays as it is
abbrev pub rollout_by : Fate → Body → ℕ → List Float → ℕ → Rollout → Rollout
rollout_by (Ok _) b n z k c = advance b.frame.dt k c (step b (row_of n z k) k c.s)
rollout_by (Err why) b n z k c = c

unfoldable pub rollout_turn : Body → ℕ → List Float → ℕ → Rollout → Rollout
rollout_turn b n z k c = rollout_by c.fate b n z k c

abbrev pub start_rollout : BodyState → Rollout
start_rollout s = record { fate = going; s = s; defect = Floats.plus_zero; nodes = replicate 17 blank_node }

-- the 16 steps, with n controls a row
unfoldable pub rollout : Body → ℕ → List Float → BodyState → Rollout
rollout b n z s = iter (rollout_turn b n z) (start_rollout s) 16

-- a refused run has no nodes: they are blank
abbrev pub refused_run : ℕ → ℕ → Run
refused_run n place = record { fate = Err (refusal n place); defect = Floats.plus_zero; nodes = replicate 17 blank_node }

-- node 16 repeats node 15's torque
abbrev pub ended_run : Body → Rollout → Run
ended_run b c = record { fate = going; defect = c.defect; nodes = set c.nodes 16 (node_of b.frame.dt 16 c.s (get_or c.nodes 15 no_node).tau) }

abbrev pub end_by_value : Fate → Body → Rollout → Run
end_by_value (Ok _) b c = ended_run b c
end_by_value (Err why) b c = refused_run why.number why.place

unfoldable pub end_of : Body → Rollout → Run
end_of b c = end_by_value c.fate b c

unfoldable pub run_from : Body → ℕ → List Float → BodyState → Run
run_from b n z s = end_of b (rollout b n z s)

-- d steps more of a rollout after k steps
unfoldable pub onward : Body → ℕ → List Float → ℕ → Rollout → ℕ → Rollout
onward b n z k c d = iter (λ (j : ℕ). rollout_turn b n z (j + k)) c d

-- ---- of a checked problem and a decision
abbrev pub frame_of : CheckedProblem → Float → Frame
frame_of p dt = record { j = p.inertia; jinv = p.inverse; tolerance = p.norm_tolerance; dt = dt }

abbrev pub body_under : WheelLaw → CheckedProblem → Float → Body
body_under law p dt = body_with (rig_under law p.map) p.map.wheel_axes p.map.wheel_powers p.map.thruster_axes (frame_of p dt)

-- the start of every run of a problem: its wheels with the momenta that the user gives
abbrev pub start_of : CheckedProblem → BodyState
start_of p = start p.map.wheel_axes p.map.wheel_count p.q0 p.momenta

-- one forward run under a law of the wheels' torque: the problem and a decision, its duration as it stands, and nothing else
unfoldable pub run_under : WheelLaw → CheckedProblem → List Float → Run
run_under law p z = run_from (body_under law p (step_time z)) (control_dim p.map) z (start_of p)

-- one forward run, as the planner makes it
abbrev pub body_of : CheckedProblem → Float → Body
body_of p dt = body_under Once p dt

abbrev pub run_of : CheckedProblem → List Float → Run
run_of p z = run_under Once p z
