-- `residuals` as a user calls it: the problem as given, the checks first, then one forward run. Definitions only.
use Rattle.std.specs.Prelude.{ℕ, List, Float, Ok, Err}
use Rattle.common.specs.Answer.{Answer, Given, Refused}
use Rattle.problem.specs.declared.Problem.{Problem}
use Rattle.problem.specs.declared.CheckedProblem.{CheckedProblem}
use Rattle.forward.specs.Reconstruct.{admit}
use Rattle.residuals.specs.Residuals.{residuals_of, refused_residuals}
use Rattle.residuals.specs.declared.ResidualVector.{ResidualVector}
use Rattle.residuals.specs.declared.Measured.{Measured}
use Rattle.common.specs.Refusals.{Fate}

-- a check that refuses begins no run; else one has begun
abbrev pub residuals_by : Fate → CheckedProblem → List Float → Measured
residuals_by (Err why) p z = record { runs = 0; residuals = refused_residuals why.number why.place }
residuals_by (Ok _) p z = record { runs = 1; residuals = residuals_of p z }

-- the same problems as `reconstruct` admits
unfoldable pub residuals : Problem → List Float → Measured
residuals p z = residuals_by (admit p).fate (admit p).problem z

-- ---- the answer: the residuals, or number, place and runs
abbrev answer_by : Fate → ℕ → ResidualVector → Answer ResidualVector
answer_by (Ok _) runs x = Given x
answer_by (Err why) runs x = Refused why.number why.place runs

abbrev pub answer : Measured → Answer ResidualVector
answer m = answer_by m.residuals.fate m.runs m.residuals
