-- What the end checks say where none of them refuses: each test that the specification names failed to find an excess. Assumes nothing.
use Rattle.std.specs.Prelude.{◌≡◌, not, List, [], ◌∷◌, ℕ, zero, suc, ◌<◌, T, Float, Some, Ok, Err}
use Rattle.std.specs.Float.Ieee.{lt}
use Rattle.common.specs.Iter.{iter}
use Rattle.float_laws.specs.Below.{below_none, below_next}
use Rattle.geom.specs.Quats.{norm3}
use Rattle.problem.specs.declared.CheckedProblem.{CheckedProblem}
use Rattle.forward.specs.declared.Node.{Node}
use Rattle.forward.specs.declared.Run.{Run}
use Rattle.forward.specs.Runs.{node_at}
use Rattle.residuals.specs.Residuals.{error_of}
use Rattle.end_checks.specs.Ends as Ends
use Rattle.run_laws.specs.Values.{goes}
use Rattle.run_laws.specs.TestLaws.{past}
use Rattle.common.specs.Refusals.{Fate, refusal, going}

-- 17 to 19 at one node
pub record Passed (p : CheckedProblem) (n : Node) : Type 0 where
  pub torque : T (not (Ends.over_torque p n))
  pub slew : T (not (Ends.too_fast p.slew n.w))
  pub momentum : T (not (Ends.over_momentum p n))

node_passed : (p : CheckedProblem) (n : Node) (k : ℕ) → T (goes (Ends.node_fate p n k)) → Passed p n
unfolding Ends.node_fate
node_passed p n k t =
    let a = past goes (Ends.over_torque p n) (Err (refusal 17 k)) _ (λ h. h) t in
    let b = past goes (Ends.too_fast p.slew n.w) (Err (refusal 18 k)) _ (λ h. h) a.1 in
    let c = past goes (Ends.over_momentum p n) (Err (refusal 19 k)) going (λ h. h) b.1 in
    record { torque = a.0; slew = b.0; momentum = c.0 }

both : (e : Fate) (p : CheckedProblem) (ns : List Node) (k : ℕ) → T (goes (Ends.node_turn_by e p ns k)) → T (goes e) × T (goes (Ends.node_fate p (node_at ns k) k))
both (Ok _) p ns k t = (tt, t)
both (Err why) p ns k t = absurd t

nodes_passed : (p : CheckedProblem) (ns : List Node) (m : ℕ) → T (goes (iter (Ends.node_turn p ns) going m)) → (k : ℕ) → k < m → Passed p (node_at ns k)
unfolding iter
nodes_passed p ns zero t = below_none (λ k. Passed p (node_at ns k))
nodes_passed p ns (suc m) t =
    let a = both (iter (Ends.node_turn p ns) going m) p ns m t in
    below_next (λ k. Passed p (node_at ns k)) m (node_passed p (node_at ns m) m a.1) (nodes_passed p ns m a.0)

-- 14 to 19 over a run whose last attitude has the turn a, b, c left
pub record Checked (p : CheckedProblem) (run : Run) (a b c : Float) : Type 0 where
  pub error : T (not (lt Ends.tolerance (norm3 (a ∷ b ∷ c ∷ []))))
  pub rate : T (not (lt Ends.tolerance (norm3 (node_at run.nodes 16).w)))
  pub defect : T (not (lt Ends.defect_tolerance run.defect))
  pub nodes : (k : ℕ) → k < 17 → Passed p (node_at run.nodes k)

-- THE END CHECKS, where none refuses
pub ends_checked : (p : CheckedProblem) (run : Run) (a b c : Float) → error_of (node_at run.nodes 16).q p.qf ≡ Some (a, b, c) → T (goes (Ends.end_fate p run)) → Checked p run a b c
unfolding Ends.end_fate Ends.rest_fate Ends.nodes_fate
ends_checked p run a b c e t =
    let x = past goes (lt Ends.tolerance (norm3 (a ∷ b ∷ c ∷ []))) (Err (refusal 14 0)) _ (λ h. h) (rw e at t) in
    let y = past goes (lt Ends.tolerance (norm3 (node_at run.nodes 16).w)) (Err (refusal 15 0)) _ (λ h. h) x.1 in
    let z = past goes (lt Ends.defect_tolerance run.defect) (Err (refusal 16 0)) _ (λ h. h) y.1 in
    record { error = x.0; rate = y.0; defect = z.0; nodes = nodes_passed p run.nodes 17 z.1 }
