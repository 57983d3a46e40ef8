-- What is kept of a base run, and when another decision's run has it. Definitions only.
use Rattle.std.specs.Prelude.{ℕ, ◌<◌, ◌≡◌, true, List, length, Float}
use Rattle.common.specs.Lists.{at}
use Rattle.actuators.specs.Maps.{control_dim}
use Rattle.controls.specs.Controls.{rig_under}
use Rattle.control_rows.specs.declared.WheelLaw.TheVariants.{Once}
use Rattle.problem.specs.declared.CheckedProblem.{CheckedProblem}
use Rattle.forward.specs.Decisions.{step_time}
use Rattle.forward.specs.StepLaws.{SkewOf}
use Rattle.forward.specs.Runs.{body_of, start_of}
use Rattle.forward.specs.PartLaws.{Sound, Stands}
use Rattle.forward.specs.declared.Partway.{Partway}
use Rattle.residuals.specs.Residuals.{target_of}
use Rattle.residuals.specs.Begins.{Begins}
use Rattle.shared_runs.specs.declared.Base.{Base}

-- the first e numbers are the same
abbrev pub Agree : ℕ → List Float → List Float → Type 0
Agree e y z = (i : ℕ) → i < e → at y i ≡ at z i

-- c with the first k of the rows v is the run of the problem p with the decision z after k steps
abbrev pub After : CheckedProblem → List Float → ℕ → Partway → List (List Float) → Type 0
After p z k c v = Stands (body_of p (step_time z)) (control_dim p.map) z (start_of p) k c v

-- b keeps the run of z after its first steps, whose nodes are in the rows v, with what is known of its residuals
pub record Kept (p : CheckedProblem) (z : List Float) (b : Base) (v errors : List (List Float)) : Type 0 where
  pub skew : SkewOf p.map.cmgs b.skew
  pub sound : Sound (rig_under Once p.map) b.at
  pub after : After p z b.steps b.at v
  pub begins : Begins (target_of p) (step_time z) v b.steps b.sums errors

-- where it is on its way
abbrev pub Keeps : CheckedProblem → List Float → Base → List (List Float) → List (List Float) → Type 0
Keeps p z b v errors = b.on ≡ true → Kept p z b v errors

-- 17 rows of nodes, and 16 of pointing errors
pub record Lent (v e : List (List Float)) : Type 0 where
  pub nodes : length v ≡ 17
  pub errors : length e ≡ 16

-- with what is lent as long as it must be
abbrev pub Holds : CheckedProblem → List Float → Base → List (List Float) → List (List Float) → Type 0
Holds p z b v e = Lent v e × Keeps p z b v e

-- y and z are as long, and their first e numbers are the same
pub record Same (e : ℕ) (y z : List Float) : Type 0 where
  pub long : length y ≡ length z
  pub agree : Agree e y z
