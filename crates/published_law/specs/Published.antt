-- Forward runs under the published law of the wheels' torque, and the words in which both laws are compared. Definitions only.
use Rattle.std.specs.Prelude.{ℕ, ◌<◌, List, T, Float}
use Rattle.common.specs.Iter.{iter}
use Rattle.common.specs.Lists.{at}
use Rattle.float_laws.specs.Zeros.{is_zero}
use Rattle.actuators.specs.Maps.{control_dim}
use Rattle.control_rows.specs.declared.WheelLaw.{WheelLaw}
use Rattle.control_rows.specs.declared.WheelLaw.TheVariants as WheelLaw
use Rattle.problem.specs.declared.Problem.{Problem}
use Rattle.problem.specs.declared.CheckedProblem.{CheckedProblem}
use Rattle.forward.specs.Decisions.{step_time}
use Rattle.forward.specs.declared.Body.{Body}
use Rattle.forward.specs.Runs.{Rollout, start_of, start_rollout, rollout_turn, body_of, run_under}
use Rattle.forward.specs.Reconstruct.{reconstruct_under}
use Rattle.forward.specs.declared.BodyState.{BodyState}
use Rattle.forward.specs.declared.Run.{Run}
use Rattle.forward.specs.declared.Reconstructed.{Reconstructed}
use Rattle.run_laws.specs.Values.{goes}

-- one forward run, and `reconstruct`, as the Rust has them
abbrev pub run_of : CheckedProblem → List Float → Run
run_of p z = run_under WheelLaw.Published p z

abbrev pub reconstruct : Problem → List Float → Reconstructed
reconstruct p z = reconstruct_under WheelLaw.Published p z

-- the body b under another law, and nothing else of it changed
abbrev pub under : WheelLaw → Body → Body
under law b = record {
  rig = record { wheel_count = b.rig.wheel_count; thruster_count = b.rig.thruster_count; cmgs = b.rig.cmgs; law = law };
  wheels = b.wheels;
  powers = b.powers;
  thrusters = b.thrusters;
  frame = b.frame;
}

-- three zeros, each of either sign
abbrev pub Still : List Float → Type 0
Still h = T (is_zero (at h 0)) × T (is_zero (at h 1)) × T (is_zero (at h 2))

-- the run after k steps
abbrev pub rollout_at : Body → ℕ → List Float → BodyState → ℕ → Rollout
rollout_at b n z from k = iter (rollout_turn b n z) (start_rollout from) k

-- at the start of each step that is begun, the first k having gone on, the body momentum is zero
abbrev pub Unladen : Body → ℕ → List Float → BodyState → Type 0
Unladen b n z from = (k : ℕ) → k < 16 → T (goes (rollout_at b n z from k).fate) → Still (rollout_at b n z from k).s.h

-- the same of a checked problem's run under the planner's law
abbrev pub UnladenRun : CheckedProblem → List Float → Type 0
UnladenRun p z = Unladen (body_of p (step_time z)) (control_dim p.map) z (start_of p)
