-- By either way: how many runs a leg can have, and that its planner's contract gives the promises of its answer. Assumes nothing.
use Rattle.std.specs.Prelude.{ℕ, ◌≤◌, ◌≡◌, refl}
use Rattle.std.proofs.Common.{arith}
use Rattle.problem.specs.Problems.{check}
use Rattle.problem.specs.declared.Problem.{Problem}
use Rattle.forward.specs.StepLaws.{refused_going}
use Rattle.planner.specs.Plans as Plans
use Rattle.planner.specs.Promises.{own_seed}
use Rattle.planner.specs.Promises as Promises
use Rattle.planner.specs.RunsMost.{plan_most}
use Rattle.planner.specs.declared.Planned.{Planned}
use Rattle.eigenaxis_seed.specs.declared.Shape.{Shape}
use Rattle.eigenaxis.specs.Bounds.{runs_bound}
use Rattle.eigenaxis.specs.Keeps as Keeps
use Rattle.eigenaxis.specs.Ladders.{plan_eigenaxis, counted}
use Rattle.common.specs.Refusals.{refusal}
use Rattle.common.specs.declared.Refusal.{Refusal}
use Rattle.mosaic.specs.Mosaics.{most_runs}
use Rattle.mosaic.specs.Ways.{planner_by, AnswersBy}
use Rattle.mosaic.specs.declared.ways.Way.{Way}
use Rattle.mosaic.specs.declared.ways.Way.TheVariants.{Search, Eigenaxis}

-- THE BOUND on a leg's runs, a refused one's too
pub runs_most : (way : Way) (size : ℕ) (p : Problem) → (planner_by way size p).runs ≤ most_runs
unfolding planner_by
runs_most Search size p = omega (arith, plan_most p size)
runs_most (Eigenaxis shape) size p = runs_bound p shape size

-- a refusal that no run led to
pub refused_answers : (way : Way) (size : ℕ) (p : Problem) (why : Refusal) → AnswersBy way size p (Plans.refused why 0)
refused_answers way size p why = record {
  given = λ g. absurd (refused_going g);
  refused = λ a b e. let x : why.number ≡ a = cc in let y : why.place ≡ b = cc in rw (← x, ← y) refl;
}

-- ---- what `plan_by` answers by each way
module _ (size : ℕ) (p : Problem) {r : Planned} where
  pub search_is : r ≡ Plans.plan p size → r ≡ planner_by Search size p
  unfolding planner_by
  search_is e = e

  pub search_answers : Promises.Answers p (own_seed (check p).problem) r → AnswersBy Search size p r
  search_answers a = record {
    given = λ g. a.given r.path (rw g refl);
    refused = λ n k g. a.refused n k r.runs (rw g refl);
  }

  module _ (shape : Shape) (e : r ≡ counted (plan_eigenaxis p shape size)) where
    pub eigenaxis_is : r ≡ planner_by (Eigenaxis shape) size p
    unfolding planner_by
    eigenaxis_is = e

    pub eigenaxis_answers : Keeps.Answers p shape (plan_eigenaxis p shape size) → AnswersBy (Eigenaxis shape) size p r
    eigenaxis_answers a =
        let t = plan_eigenaxis p shape size in
        rw e (record {
          given = λ g. a.given t.planned.path (rw g refl);
          refused = λ n k g.
              let h : t.planned ≡ Plans.refused (refusal n k) t.planned.runs = a.refused n k t.planned.runs (rw g refl) in
              λ i. record { fate = (h i).fate; runs = t.runs; path = (h i).path };
        })
