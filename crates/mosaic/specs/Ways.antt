-- The ways in which a leg is planned, by the search or about one axis: the planner of each, and what it promises of its answer. Definitions only.
use Rattle.std.specs.Prelude.{ℕ, ◌≡◌, Err}
use Rattle.problem.specs.Problems.{check}
use Rattle.problem.specs.declared.Problem.{Problem}
use Rattle.planner.specs.Plans as Plans
use Rattle.planner.specs.Promises.{Promised, own_seed}
use Rattle.planner.specs.declared.Planned.{Planned}
use Rattle.eigenaxis.specs.Keeps.{decision_at}
use Rattle.eigenaxis.specs.Ladders.{unweighted, plan_eigenaxis, counted}
use Rattle.mosaic.specs.Mosaics.{Planner}
use Rattle.mosaic.specs.declared.ways.Way.{Way}
use Rattle.mosaic.specs.declared.ways.Way.TheVariants.{Search, Eigenaxis}
use Rattle.common.specs.Refusals.{refusal, going}

-- THE PLANNER of a way, `size` numbers being lent: `plan`, or the eigenaxis plan, whose runs are those of every try
unfoldable pub planner_by : Way → ℕ → Planner
planner_by Search size = λ p. Plans.plan p size
planner_by (Eigenaxis shape) size = λ p. counted (plan_eigenaxis p shape size)

-- DEMAND 3 of an answer r that has a path. By the search: for the problem and our own seed, with the runs reported. By eigenaxis: for the problem with its weights at 0
-- and the eigenaxis seed of the duration at which the ladder ends, with the runs of the one try that answered.
abbrev pub PromisedBy : Way → ℕ → Problem → Planned → Type 0
PromisedBy Search size p r = Promised p (own_seed (check p).problem) r.path r.runs
PromisedBy (Eigenaxis shape) size p r =
    Promised (unweighted p) (decision_at (unweighted p) shape (plan_eigenaxis p shape size).at) r.path (plan_eigenaxis p shape size).planned.runs

-- what an answer r says: a path of which demand 3 holds, or a refusal beside which the path is blank
pub record AnswersBy (way : Way) (size : ℕ) (p : Problem) (r : Planned) : Type 0 where
  pub given : r.fate ≡ going → PromisedBy way size p r
  pub refused : (number place : ℕ) → r.fate ≡ Err (refusal number place) → r ≡ Plans.refused (refusal number place) r.runs
