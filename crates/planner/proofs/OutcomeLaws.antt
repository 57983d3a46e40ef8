-- The outcome of a stage that searched. Assumes nothing.
use Rattle.std.specs.Prelude.{ℕ, ◌≡◌, List, length, replicate, Float}
use Rattle.std.proofs.Common.{subst, ◌∙◌}
use Rattle.common.specs.Floats.{plus_zero}
use Rattle.problem.specs.declared.CheckedProblem.{CheckedProblem}
use Rattle.scvx.specs.Search.{search}
use Rattle.search_laws.specs.Counts.{runs_least}
use Rattle.search_laws.specs.Fits.{Fit}
use Rattle.planner.specs.Plans as Plans
use Rattle.planner.specs.PlanLaws.{answered_runs, leaves_begun}
use Rattle.planner.specs.declared.Planned.{Planned}
use Rattle.planner.specs.Outcomes.{Outcome}

-- after a search from the seed's decision: the workspace was cleared
pub solved : (p : CheckedProblem) {is : Planned} (ws : List Float) {z seed : List Float} {was held : List ℕ} {r : Planned} {exit : List Float} → seed ≡ z → was ≡ held → r ≡ Plans.answered p (search p seed) was → exit ≡ replicate (length ws) plus_zero → Fit seed
    → Plans.answered p (search p z) held ≡ is → Outcome is ws z r exit
solved p ws {z} {held = held} e w f g h i =
    let j = rw (e, w) at f in
    record {
      same = j ∙ i;
      left = g ∙ rw (j, answered_runs p (search p z) held) (leaves_begun (search p z).runs ws (runs_least p z));
      held = λ _. subst Fit e h;
    }
