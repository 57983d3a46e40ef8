-- Between the nodes is kept: of every path of which demand 3 holds, and so by both entries. Assumes nothing.
use Rattle.std.specs.Prelude.{◌≡◌, List, ℕ, ◌+◌, ◌*◌, ◌^◌, ◌≤◌, ◌<◌, max, T, Float}
use Rattle.std.proofs.Common.{subst, arith}
use Rattle.std.specs.Float.{binary64}
use Rattle.std.specs.Float.Ieee.Fits.{div-fits}
use Rattle.std.specs.Float.Ieee.Scale.{finite}
use Rattle.common.specs.Answer.{Given}
use Rattle.common.specs.Lists.{at}
use Rattle.float_laws.specs.Finite.{mul_finite}
use Rattle.mean_laws.specs.Means.{size}
use Rattle.problem.specs.Problems.{check}
use Rattle.problem.specs.declared.Problem.{Problem}
use Rattle.forward.specs.Decisions.{step_time}
use Rattle.forward.specs.declared.Node.{Node}
use Rattle.forward.specs.Runs.{node_at}
use Rattle.run_laws.specs.Checked.{FitsP}
use Rattle.search_laws.specs.Fits.{Fit}
use Rattle.planner.specs.Plans as Plans
use Rattle.planner.specs.Promises.{Promised, Answers}
use Rattle.planner.proofs.PromisesKept.{plan_answers, plan_from_answers}
use Rattle.planner.specs.declared.Path.{Path}
use Rattle.planner.specs.declared.Planned.{Planned}
use Rattle.samples.specs.declared.PathSample.{PathSample}
use Rattle.sample_laws.specs.Between.{WithinNodes, BetweenNodes}
use Rattle.sample_laws.specs.Courses.{RunNode, reconstruct_nodes}
use Rattle.sample_laws.specs.Nodes.{RunNodes}
use Rattle.sample_laws.proofs.Rates.{sampled_within}
use Rattle.common.specs.Refusals.{going}

-- ---- a path of which demand 3 holds
module _ {p : Problem} {seed : List Float} {path : Path} {runs : ℕ} (P : Promised p seed path runs) where
  nodes_made : (k : ℕ) → k < 17 → RunNode (step_time path.z) k (node_at path.nodes k)
  nodes_made = subst (λ (ns : List Node). (k : ℕ) → k < 17 → RunNode (step_time path.z) k (node_at ns k)) P.rerun_nodes (reconstruct_nodes p path.z (rw P.rerun_goes tt))

  -- node 1's time is finite, so the time of a step is
  step_finite : T (finite (step_time path.z))
  step_finite = let e = (nodes_made 1 (omega arith)).t in (mul_finite binary64 _ (step_time path.z) (subst (λ (x : Float). T (finite x)) e (P.finite_nodes 1 (omega arith)).t)).1

  path_nodes : RunNodes path.nodes (step_time path.z)
  path_nodes = record {
    step = record { fit = div-fits binary64 _ _; fine = step_finite };
    made = nodes_made;
    time = λ k h. (P.finite_nodes k h).t;
    rate = λ k h. (P.finite_nodes k h).w;
  }

  -- BETWEEN THE NODES, by demand 3 alone
  pub promised_between : BetweenNodes path
  promised_between = sampled_within path.nodes (step_time path.z) path.duration path_nodes P.finite_duration

-- ---- both entries: the contracts of `plan` and `plan_from` hold `Answers`
pub answers_between : {p : Problem} {seed : List Float} {r : Planned} → Answers p seed r → (path : Path) → Plans.answer r ≡ Given path → BetweenNodes path
answers_between A path h = promised_between (A.given path h)

-- where f64 holds the problem's numbers, and those of a caller's seed
module _ (p : Problem) (F : FitsP p) where
  pub plan_between : (size : ℕ) (path : Path) → Plans.answer (Plans.plan p size) ≡ Given path → BetweenNodes path
  plan_between size = answers_between (plan_answers p F size)

  pub plan_from_between : (duration : Float) (rates torques : List Float) (size : ℕ) → ((Plans.plan_from p duration rates torques size).fate ≡ going → Fit (Plans.seed_of (check p).problem duration torques))
      → (path : Path) → Plans.answer (Plans.plan_from p duration rates torques size) ≡ Given path → BetweenNodes path
  plan_from_between duration rates torques size G = answers_between (plan_from_answers p F duration rates torques size G)

-- ---- what a sensor asks: where no node's part k passes m, in whole numbers of 2 ^ -1074, no sample's does by more than m times 2 ^ -50 and 2 ^ -1070
pub below_limit : (nodes : List Node) (s : PathSample) → WithinNodes nodes s → (k m : ℕ) → k < 3 → ((i : ℕ) → i < 17 → size (at (node_at nodes i).w k) ≤ m) → 2 ^ 50 * size (at s.w k) ≤ (2 ^ 50 + 1) * m + 2 ^ 50 * 16
below_limit nodes s W k m l h =
    let n = W.has_next in
    under (size (at s.w k)) (size (at (node_at nodes W.i).w k)) (size (at (node_at nodes (W.i + 1)).w k)) (h W.i (omega arith)) (h (W.i + 1) (omega arith)) (W.rates k l).within
  where
    under : (w A B : ℕ) → A ≤ m → B ≤ m → 2 ^ 50 * w ≤ (2 ^ 50 + 1) * max A B + 2 ^ 50 * 16 → 2 ^ 50 * w ≤ (2 ^ 50 + 1) * m + 2 ^ 50 * 16
    under w A B a b c = omega arith
