-- What the checks answer: a checked problem, or a refusal before any run. Definitions only.
use Rattle.std.specs.Prelude.{Ok, Err}
use Rattle.common.specs.Answer.{Answer, Given, Refused}
use Rattle.problem.specs.declared.CheckedProblem.{CheckedProblem}
use Rattle.problem.specs.declared.Checked.{Checked}
use Rattle.common.specs.Refusals.{Fate}

abbrev answer_by : Fate → CheckedProblem → Answer CheckedProblem
answer_by (Ok _) p = Given p
answer_by (Err why) p = Refused why.number why.place 0

-- no forward run has begun when a check refuses
abbrev pub answer : Checked → Answer CheckedProblem
answer c = answer_by c.fate c.problem
