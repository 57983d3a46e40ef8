-- The residuals of a run with nodes are never refused: the turn that is left is three finite numbers at every node. And how many there are. Assumes nothing.
use Rattle.std.specs.Prelude.{◌≡◌, Bool, List, ℕ, ◌<◌, Float, Option, Some, None, Ok, Err}
use Rattle.std.proofs.Math.Path.{refl}
use Rattle.std.proofs.Math.Bool.{true, false, cond}
use Rattle.std.proofs.Common.{arith}
use Rattle.std.proofs.Math.Dec.{T}
use Rattle.std.specs.Float.{binary64}
use Rattle.std.specs.Float.Ieee.{lt, fits}
use Rattle.common.specs.Floats as Floats
use Rattle.common.specs.Lists.{at}
use Rattle.float_laws.specs.Below.{below_turns}
use Rattle.geom.specs.Vec as Vec
use Rattle.problem.specs.declared.CheckedProblem.{CheckedProblem}
use Rattle.forward.specs.Runs.{node_at}
use Rattle.forward.specs.Runs.{run_of}
use Rattle.residuals.specs.Residuals as Residuals
use Rattle.residuals.specs.Sums as Sums
use Rattle.forward.specs.Runs.{node_at}
use Rattle.forward.specs.declared.Node.{Node}
use Rattle.residuals.specs.declared.ResidualVector.{ResidualVector}
use Rattle.residuals.specs.declared.Target.{Target}
use Rattle.run_laws.specs.Values.{goes}
use Rattle.run_laws.specs.Errors.{TurnIn, error_in_law}
use Rattle.run_laws.specs.Checked.{Ready}
use Rattle.run_laws.specs.Paths.{run_node}
use Rattle.run_laws.proofs.Paths.{run_path}
use Rattle.common.specs.Refusals.{Fate}

-- NO 11: the turn that is left at any node of a run with nodes
pub left_in : (p : CheckedProblem) (z : List Float) → Ready p → ((i : ℕ) → T (fits binary64 (at z i))) → T (goes (run_of p z).fate) → (k : ℕ) → k < 17 → TurnIn (Residuals.error_of (run_node (run_of p z) k).q p.qf)
left_in p z R F t k h = error_in_law (run_node (run_of p z) k).q p.qf ((run_path p z R F t).nodes k h).q R.qf

module _ (g : Target) (z : List Float) (ns : List Node) (E : (k : ℕ) → k < 17 → TurnIn (Residuals.error_of (node_at ns k).q g.qf)) where
  module _ (scale : Float) where
    point_goes : (k : ℕ) → k < 17 → (e : ResidualVector) → T (goes e.fate) → T (goes (Residuals.point_turn scale ns g.qf k e).fate)
    unfolding Residuals.point_turn
    point_goes k h e t = go e.fate refl
      where
        by : (r : Option (Float × Float × Float)) → TurnIn r → T (goes (Residuals.point_by r scale k e.r).fate)
        by r A = rw A.is tt

        go : (x : Fate) → e.fate ≡ x → T (goes (Residuals.point_turn_by x scale ns g.qf k e).fate)
        go (Ok _) q = by (Residuals.error_of (node_at ns k).q g.qf) (E k h)
        go (Err why) q = absurd (rw q at t)

    pointed_goes : (r : List Float) → T (goes (Residuals.pointed scale ns g.qf r).fate)
    unfolding Residuals.pointed
    pointed_goes r = below_turns (λ k e. T (goes e.fate)) (Residuals.point_turn scale ns g.qf) _ 17 point_goes tt

  close_goes : (x : Fate) (e : ResidualVector) → T (goes x) → T (goes (Residuals.close_by x g z ns e).fate)
  close_goes (Ok _) e t = tt
  close_goes (Err why) e t = absurd t

  with_goes : (r : List Float) → T (goes (Residuals.with_pointing g z ns r).fate)
  unfolding Residuals.with_pointing
  with_goes r =
      let e = Residuals.pointed (Residuals.point_scale g.weights) ns g.qf r in
      close_goes e.fate e (pointed_goes (Residuals.point_scale g.weights) r)

  without_goes : (r : List Float) → T (goes (Residuals.without_pointing g z ns r).fate)
  unfolding Residuals.without_pointing
  without_goes r = tt

  nodes_go : T (goes (Residuals.of_nodes g z ns).fate)
  unfolding Residuals.of_nodes
  nodes_go = by (Residuals.error_of (node_at ns 16).q g.qf) (E 16 (omega arith))
    where
      either : (b : Bool) (x y : ResidualVector) → T (goes x.fate) → T (goes y.fate) → T (goes (cond b x y).fate)
      either true x y f g = f
      either false x y f g = g

      by : (r : Option (Float × Float × Float)) → TurnIn r → T (goes (Residuals.error_by r g z ns).fate)
      by r A = rw A.is (either (lt Floats.plus_zero g.weights.pointing) _ _ (with_goes _) (without_goes _))

-- RESIDUALS: a decision whose run has nodes has residuals
pub residuals_go : (p : CheckedProblem) (z : List Float) → Ready p → ((i : ℕ) → T (fits binary64 (at z i))) → T (goes (run_of p z).fate) → T (goes (Residuals.residuals_of p z).fate)
unfolding Residuals.residuals_of Residuals.of_run
residuals_go p z R F t = go (run_of p z).fate refl
  where
    go : (x : Fate) → (run_of p z).fate ≡ x → T (goes (Residuals.of_run_by x (Residuals.target_of p) z (run_of p z).nodes).fate)
    go (Ok _) q = nodes_go (Residuals.target_of p) z (run_of p z).nodes (left_in p z R F t)
    go (Err why) q = absurd (rw q at t)

-- ---- how many there are
module _ (g : Target) (z : List Float) (ns : List Node) where
  close_count : (e : ResidualVector) (x : Fate) → e.fate ≡ x → T (goes (Residuals.close_by x g z ns e).fate) → (Residuals.close_by x g z ns e).count ≡ 79
  close_count e (Ok _) q t = refl
  close_count e (Err why) q t = absurd (rw q at t)

  with_count : (r : List Float) → T (goes (Residuals.with_pointing g z ns r).fate) → (Residuals.with_pointing g z ns r).count ≡ 79
  unfolding Residuals.with_pointing
  with_count r t =
      let e = Residuals.pointed (Residuals.point_scale g.weights) ns g.qf r in
      close_count e e.fate refl t

  without_count : (r : List Float) → (Residuals.without_pointing g z ns r).count ≡ 28
  unfolding Residuals.without_pointing
  without_count r = refl

  nodes_count : T (goes (Residuals.of_nodes g z ns).fate) → (Residuals.of_nodes g z ns).count ≡ cond (lt Floats.plus_zero g.weights.pointing) 79 28
  unfolding Residuals.of_nodes
  nodes_count t = by (Residuals.error_of (node_at ns 16).q g.qf) t
    where
      either : (b : Bool) (x y : ResidualVector) → (T (goes x.fate) → x.count ≡ 79) → y.count ≡ 28 → T (goes (cond b x y).fate) → (cond b x y).count ≡ cond b 79 28
      either true x y f h t = f t
      either false x y f h t = h

      by : (r : Option (Float × Float × Float)) → T (goes (Residuals.error_by r g z ns).fate) → (Residuals.error_by r g z ns).count ≡ cond (lt Floats.plus_zero g.weights.pointing) 79 28
      by None t = absurd t
      by (Some (a, b, c)) t = either (lt Floats.plus_zero g.weights.pointing) _ _ (with_count _) (without_count _) t

-- COUNT: residuals that are not refused are 28, or 79 with a pointing weight above 0
pub residuals_count : (p : CheckedProblem) (z : List Float) → T (goes (Residuals.residuals_of p z).fate) → (Residuals.residuals_of p z).count ≡ cond (lt Floats.plus_zero p.weights.pointing) 79 28
unfolding Residuals.residuals_of Residuals.of_run
residuals_count p z t = go (run_of p z).fate t
  where
    go : (x : Fate) → T (goes (Residuals.of_run_by x (Residuals.target_of p) z (run_of p z).nodes).fate) → (Residuals.of_run_by x (Residuals.target_of p) z (run_of p z).nodes).count ≡ cond (lt Floats.plus_zero p.weights.pointing) 79 28
    go (Ok _) t = nodes_count (Residuals.target_of p) z (run_of p z).nodes t
    go (Err why) t = absurd t
