-- The loop over the pointing rows: one node's turn, the early way out, and the residuals after it. Assumes nothing.
use Rattle.std.specs.Prelude.{ℕ, ◌+◌, ◌≤◌, ◌<◌, ◌≡◌, List, Float, Option}
use Rattle.std.proofs.Math.Path.{refl, ap}
use Rattle.std.proofs.Common.{arith}
use Rattle.common.specs.Iter.{iter}
use Rattle.common.specs.IterLaws.{iter_next, iter_stays}
use Rattle.geom.specs.Vec as Vec
use Rattle.geom.specs.declared.Quat.{Quat}
use Rattle.forward.specs.declared.Node.{Node}
use Rattle.forward.specs.Runs.{node_at}
use Rattle.residuals.specs.Residuals as Residuals
use Rattle.residuals.specs.Begins.{EndError}
use Rattle.residuals.specs.declared.Target.{Target}
use Rattle.residuals.specs.declared.ResidualVector.{ResidualVector}

module _ (scale : Float) (ns : List Node) (qf : Quat) (r : List Float) where
  -- the residuals after k nodes
  abbrev pub Rows : ResidualVector → ℕ → Type 0
  Rows e k = e ≡ iter (Residuals.point_turn scale ns qf) (Residuals.pointing r) k

  -- what node k answers is the next turn
  pub rows_next : (k : ℕ) (out : List Float) {e : ResidualVector} → Rows (Residuals.pointing out) k → e ≡ Residuals.point_by (Residuals.error_of (node_at ns k).q qf) scale k out → Rows e (k + 1)
  unfolding Residuals.point_turn
  rows_next k out p q = iter_next _ _ k p q

  stays : (n place j : ℕ) → Residuals.point_turn scale ns qf j (Residuals.refused_residuals n place) ≡ Residuals.refused_residuals n place
  unfolding Residuals.point_turn
  stays n place j = refl

  -- a refused logarithm ends the rows
  pub rows_refused : (k end n place : ℕ) → k ≤ end → Rows (Residuals.refused_residuals n place) k → Rows (Residuals.refused_residuals n place) end
  rows_refused k end n place h p = iter_stays _ _ k end h p (stays n place)

-- ---- the residuals after the first 16 nodes' rows
module _ (t : Target) (z : List Float) (ns : List Node) (r : List Float) where
  abbrev scale : Float
  scale = Residuals.point_scale t.weights

  pub with_refused : (n place : ℕ) → Rows scale ns t.qf r (Residuals.refused_residuals n place) 16 → Residuals.refused_residuals n place ≡ Residuals.with_pointing t z ns r
  unfolding Residuals.with_pointing Residuals.pointed
  with_refused n place p = ap (λ (x : ResidualVector). Residuals.close_by x.fate t z ns x) (rows_refused scale ns t.qf r 16 17 n place (omega arith) p)

  pub with_going : (out error : List Float) → Rows scale ns t.qf r (Residuals.pointing out) 16 → EndError t.qf ns error
      → Residuals.pointing (Residuals.closing t z ns 74 (Residuals.put3 out 71 (Vec.scale3 error scale))) ≡ Residuals.with_pointing t z ns r
  unfolding Residuals.with_pointing Residuals.pointed
  with_going out error p e =
      ap (λ (x : ResidualVector). Residuals.close_by x.fate t z ns x) (rows_next scale ns t.qf r 16 out p (ap (λ (x : Option (Float × Float × Float)). Residuals.point_by x scale 16 out) e))
