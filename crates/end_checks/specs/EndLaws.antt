-- The loop over the nodes: one node more, and the early way out. Assumes nothing.
use Rattle.std.specs.Prelude.{ℕ, ◌+◌, ◌<◌, ◌≡◌, refl, List, Err}
use Rattle.std.proofs.Common.{sym, ◌∙◌, arith}
use Rattle.common.specs.Iter.{iter}
use Rattle.common.specs.IterLaws.{iter_next, iter_stays}
use Rattle.problem.specs.declared.CheckedProblem.{CheckedProblem}
use Rattle.forward.specs.declared.Node.{Node}
use Rattle.forward.specs.Runs.{node_at}
use Rattle.end_checks.specs.Ends as Ends
use Rattle.common.specs.Refusals.{Fate, going}
use Rattle.common.specs.declared.Refusal.{Refusal}

module _ (p : CheckedProblem) (ns : List Node) (k : ℕ) {f : Fate} (before : going ≡ iter (Ends.node_turn p ns) going k) (is : f ≡ Ends.node_fate p (node_at ns k) k) where
  -- node k passes
  pub nodes_next : f ≡ going → going ≡ iter (Ends.node_turn p ns) going (k + 1)
  nodes_next g = iter_next _ _ k before (sym g ∙ is)

  -- node k is refused
  pub nodes_refused : {why : Refusal} → k < 17 → f ≡ Err why → Err why ≡ Ends.nodes_fate p ns
  unfolding Ends.nodes_fate
  nodes_refused h g = iter_stays _ _ (k + 1) 17 (omega arith) (iter_next _ _ k before (sym g ∙ is)) (λ j. refl)
