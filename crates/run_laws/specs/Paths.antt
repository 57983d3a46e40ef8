-- A forward run with nodes of a problem and a decision, as `reconstruct` gives it. Assumes nothing.
use Rattle.std.specs.Prelude.{◌≡◌, List, ℕ, ◌+◌, ◌*◌, ◌<◌, T, get_or, Float}
use Rattle.std.proofs.Common.{ap}
use Rattle.std.specs.Float.Ieee.Scale.{finite}
use Rattle.common.specs.Lists.{at}
use Rattle.actuators.specs.Maps.{control_dim}
use Rattle.problem.specs.declared.Problem.{Problem}
use Rattle.problem.specs.declared.CheckedProblem.{CheckedProblem}
use Rattle.forward.specs.Decisions.{step_time}
use Rattle.forward.specs.Runs.{start_of, node_of, no_node, run_of}
use Rattle.control_rows.specs.declared.WheelLaw.TheVariants.{Once}
use Rattle.forward.specs.Reconstruct.{admit, reconstruct_by, reconstruct_under, reconstruct}
use Rattle.forward.specs.declared.Node.{Node}
use Rattle.forward.specs.declared.Run.{Run}
use Rattle.run_laws.specs.Values.{Fine3}
use Rattle.run_laws.specs.Runs.{NodeOk}
use Rattle.run_laws.specs.Defects.{grounded}
use Rattle.common.specs.Refusals.{Fate, going}

-- control i of row k of the decision z, c to a row
abbrev pub control : ℕ → List Float → ℕ → ℕ → Float
control c z k i = at z (1 + k * c + i)

abbrev pub run_node : Run → ℕ → Node
run_node r k = get_or r.nodes k no_node

-- What a run with nodes is: a finite duration and finite controls, all 17 nodes in order at finite times, a finite body momentum at every node but the last, a
-- largest defect that is neither a NaN nor minus infinity, node 16 with node 15's torque, node 0 at the start.
pub record Path (p : CheckedProblem) (z : List Float) (r : Run) : Type 0 where
  pub duration : T (finite (at z 0))
  pub controls : (k : ℕ) → k < 16 → (i : ℕ) → i < control_dim p.map → T (finite (control (control_dim p.map) z k i))
  pub nodes : (k : ℕ) → k < 17 → NodeOk p.map.wheel_count (run_node r k)
  pub times : (k : ℕ) → k < 17 → T (finite (run_node r k).t)
  pub stored : (k : ℕ) → k < 16 → Fine3 (run_node r k).h
  pub defect : T (grounded r.defect)
  pub repeats : (run_node r 16).tau ≡ (run_node r 15).tau
  pub first : run_node r 0 ≡ node_of (step_time z) 0 (start_of p) (run_node r 0).tau

-- RERUN: `reconstruct` on a problem that is admitted is one forward run of it, and nothing else, so that a decision run again gives the same nodes
pub rerun : (p : Problem) (z : List Float) → (admit p).fate ≡ going → reconstruct p z ≡ record { runs = 1; run = run_of (admit p).problem z }
unfolding reconstruct_under
rerun p z h = ap (λ (e : Fate). reconstruct_by e Once (admit p).problem z) h
