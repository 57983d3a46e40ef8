-- `reconstruct` as a user calls it: the problem as given, checks 1 to 6 and 22 first, then one forward run. Definitions only.
use Rattle.std.specs.Prelude.{ℕ, ◌≤◌, ◌≡◌, true, cond, List, ltb, Float, Ok, Err}
use Rattle.common.specs.Answer.{Answer, Given, Refused}
use Rattle.actuators.specs.Maps.{is_sized, control_dim}
use Rattle.control_rows.specs.declared.WheelLaw.{WheelLaw}
use Rattle.control_rows.specs.declared.WheelLaw.TheVariants.{Once}
use Rattle.problem.specs.Problems as Problems
use Rattle.problem.specs.declared.Problem.{Problem}
use Rattle.problem.specs.declared.Checked.{Checked}
use Rattle.problem.specs.declared.CheckedProblem.{CheckedProblem}
use Rattle.forward.specs.Runs.{run_under, refused_run}
use Rattle.forward.specs.declared.Run.{Run}
use Rattle.forward.specs.declared.Reconstructed.{Reconstructed}
use Rattle.common.specs.Refusals.{Fate}

-- Checks 1 to 6 and 22. Then a row of more than 12 controls, which no actuators that are served have, and which a packed decision of 193 numbers has no
-- place for: refusal 8. (A refused check has the blank map, whose rows have 3.)
unfoldable pub admit : Problem → Checked
admit p = cond (ltb 12 (control_dim (Problems.check p).problem.map)) (Problems.refused 8 0) (Problems.check p)

-- a check that refuses begins no run; else one has begun
abbrev pub reconstruct_by : Fate → WheelLaw → CheckedProblem → List Float → Reconstructed
reconstruct_by (Err why) law p z = record { runs = 0; run = refused_run why.number why.place }
reconstruct_by (Ok _) law p z = record { runs = 1; run = run_under law p z }

unfoldable pub reconstruct_under : WheelLaw → Problem → List Float → Reconstructed
reconstruct_under law p z = reconstruct_by (admit p).fate law (admit p).problem z

abbrev pub reconstruct : Problem → List Float → Reconstructed
reconstruct p z = reconstruct_under Once p z

-- the answer: a run, or number, place and runs
abbrev answer_by : Fate → ℕ → Run → Answer Run
answer_by (Ok _) runs x = Given x
answer_by (Err why) runs x = Refused why.number why.place runs

abbrev pub answer : Reconstructed → Answer Run
answer r = answer_by r.run.fate r.runs r.run

-- ---- an admitted problem's runs have what they ask for
pub record Admitted (p : CheckedProblem) : Type 0 where
  pub sized : is_sized p.map ≡ true
  pub narrow : control_dim p.map ≤ 12
