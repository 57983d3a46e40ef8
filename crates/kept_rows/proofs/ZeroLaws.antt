-- The rows left out are +0.0 in the residuals of every decision: no term is written there. Assumes nothing.
use Rattle.std.specs.Prelude.{ℕ, ◌+◌, ◌*◌, ◌≤◌, ◌≡◌, Bool, true, false, cond, List, [], ◌∷◌, set, replicate, Float, Option, Some, None, Ok, Err}
use Rattle.std.proofs.Common.{arith, sym, subst, ◌∙◌, true≢false, get_or-set_other}
use Rattle.std.proofs.lemmas.List.{get_or-replicate}
use Rattle.std.specs.Float.{nan}
use Rattle.std.specs.Float.Ieee.{lt}
use Rattle.common.specs.Floats as Floats
use Rattle.float_laws.specs.Below.{below_turns}
use Rattle.common.specs.Lists.{at}
use Rattle.geom.specs.Vec as Vec
use Rattle.geom.specs.declared.Quat.{Quat}
use Rattle.problem.specs.declared.CheckedProblem.{CheckedProblem}
use Rattle.forward.specs.Runs.{run_of}
use Rattle.forward.specs.declared.Node.{Node}
use Rattle.forward.specs.Runs.{node_at}
use Rattle.residuals.specs.Residuals as Residuals
use Rattle.residuals.specs.declared.Target.{Target}
use Rattle.residuals.specs.declared.ResidualVector.{ResidualVector}
use Rattle.kept_rows.specs.Kept.{left_out, Zeros}
use Rattle.kept_rows.specs.ZeroLaws.{first_kept, point_kept, last_kept, last_short_kept}
use Rattle.common.specs.Refusals.{Fate}

-- a number written into a kept row
set_zeros : {m : ℕ} {r : List Float} (j : ℕ) (x : Float) → left_out m j ≡ false → Zeros m r → Zeros m (set r j x)
set_zeros {m} {r} j x k z = record { out = λ i h e. get_or-set_other r j i x nan (λ (q : i ≡ j). apart (subst (λ n. left_out m n ≡ true) q e)) ∙ z.out i h e }
  where
    apart : left_out m j ≡ true → ⊥
    apart q = true≢false (sym q ∙ k)

put3_zeros : {m : ℕ} {r : List Float} (j : ℕ) (v : List Float) → left_out m j ≡ false → left_out m (j + 1) ≡ false → left_out m (j + 2) ≡ false → Zeros m r → Zeros m (Residuals.put3 r j v)
put3_zeros j v a b c z = set_zeros (j + 2) (at v 2) c (set_zeros (j + 1) (at v 1) b (set_zeros j (at v 0) a z))

-- nothing is written yet
none_zeros : {m : ℕ} → m ≤ 79 → Zeros m (replicate 79 Floats.plus_zero)
none_zeros l = record { out = λ i h e. get_or-replicate 79 i Floats.plus_zero nan (omega arith) }

-- ---- term by term
ends_zeros : {m : ℕ} → m ≤ 79 → (error rate : List Float) → Zeros m (Residuals.ends error rate)
unfolding Residuals.ends
ends_zeros {m} l error rate =
    put3_zeros 3 (Vec.scale3 rate Residuals.end_scale) (first_kept m 3 (omega arith)) (first_kept m 4 (omega arith)) (first_kept m 5 (omega arith))
    (put3_zeros 0 (Vec.scale3 error Residuals.end_scale) (first_kept m 0 (omega arith)) (first_kept m 1 (omega arith)) (first_kept m 2 (omega arith)) (none_zeros l))

closing_zeros : {m : ℕ} {r : List Float} (t : Target) (z : List Float) (ns : List Node) (i : ℕ) → ((j : ℕ) → i ≤ j → left_out m j ≡ false) → Zeros m r → Zeros m (Residuals.closing t z ns i r)
unfolding Residuals.closing
closing_zeros t z ns i k h =
    set_zeros (i + 4) _ (k (i + 4) (omega arith))
    (set_zeros (i + 3) _ (k (i + 3) (omega arith))
    (set_zeros (i + 2) _ (k (i + 2) (omega arith)) (set_zeros (i + 1) _ (k (i + 1) (omega arith)) (set_zeros i _ (k i (omega arith)) h))))

point_zeros : (x : Option (Float × Float × Float)) (scale : Float) (k : ℕ) {r : List Float} → Zeros 79 r → Zeros 79 (Residuals.point_by x scale k r).r
point_zeros None scale k h = none_zeros (omega arith)
point_zeros (Some (x, y, z)) scale k h =
    put3_zeros (7 + 4 * k) (Vec.scale3 (x ∷ y ∷ z ∷ []) scale)
    (point_kept k (7 + 4 * k) (omega arith) (omega arith)) (point_kept k (7 + 4 * k + 1) (omega arith) (omega arith)) (point_kept k (7 + 4 * k + 2) (omega arith) (omega arith)) h

module _ (scale : Float) (ns : List Node) (qf : Quat) where
  turn_by : (f : Fate) (k : ℕ) (e : ResidualVector) → Zeros 79 e.r → Zeros 79 (Residuals.point_turn_by f scale ns qf k e).r
  turn_by (Err why) k e h = h
  turn_by (Ok _) k e h = point_zeros (Residuals.error_of (node_at ns k).q qf) scale k h

  pointed_zeros : (r : List Float) → Zeros 79 r → Zeros 79 (Residuals.pointed scale ns qf r).r
  unfolding Residuals.pointed Residuals.point_turn
  pointed_zeros r h = below_turns (λ (k : ℕ) (e : ResidualVector). Zeros 79 e.r) (Residuals.point_turn scale ns qf) (Residuals.pointing r) 17 (λ k l e z. turn_by e.fate k e z) h

module _ (t : Target) (z : List Float) (ns : List Node) where
  close_by_law : (f : Fate) (e : ResidualVector) → Zeros 79 e.r → Zeros 79 (Residuals.close_by f t z ns e).r
  close_by_law (Err why) e h = h
  close_by_law (Ok _) e h = closing_zeros t z ns 74 last_kept h

  with_zeros : (r : List Float) → Zeros 79 r → Zeros 79 (Residuals.with_pointing t z ns r).r
  unfolding Residuals.with_pointing
  with_zeros r h = let e : ResidualVector = Residuals.pointed (Residuals.point_scale t.weights) ns t.qf r in close_by_law e.fate e (pointed_zeros (Residuals.point_scale t.weights) ns t.qf r h)

  without_zeros : (r : List Float) → Zeros 28 r → Zeros 28 (Residuals.without_pointing t z ns r).r
  unfolding Residuals.without_pointing
  without_zeros r h = closing_zeros t z ns 23 last_short_kept h

  -- how many residuals there are
  abbrev count : ℕ
  count = cond (lt Floats.plus_zero t.weights.pointing) 79 28

  either : (b : Bool) (e w : List Float) → Zeros (cond b 79 28) (cond b (Residuals.with_pointing t z ns (Residuals.ends e w)) (Residuals.without_pointing t z ns (Residuals.ends e w))).r
  either true e w = with_zeros _ (ends_zeros (omega arith) e w)
  either false e w = without_zeros _ (ends_zeros (omega arith) e w)

  refused_zeros : (b : Bool) (n place : ℕ) → Zeros (cond b 79 28) (Residuals.refused_residuals n place).r
  refused_zeros true n place = none_zeros (omega arith)
  refused_zeros false n place = none_zeros (omega arith)

  error_zeros : (x : Option (Float × Float × Float)) → Zeros count (Residuals.error_by x t z ns).r
  error_zeros None = refused_zeros (lt Floats.plus_zero t.weights.pointing) 11 0
  error_zeros (Some (a, b, c)) = either (lt Floats.plus_zero t.weights.pointing) (a ∷ b ∷ c ∷ []) (node_at ns 16).w

  run_zeros : (f : Fate) → Zeros count (Residuals.of_run_by f t z ns).r
  unfolding Residuals.of_nodes
  run_zeros (Err why) = refused_zeros (lt Floats.plus_zero t.weights.pointing) why.number why.place
  run_zeros (Ok _) = error_zeros (Residuals.error_of (node_at ns 16).q t.qf)

-- of every decision
pub residuals_zeros : (p : CheckedProblem) (z : List Float) → Zeros (cond (lt Floats.plus_zero p.weights.pointing) 79 28) (Residuals.residuals_of p z).r
unfolding Residuals.residuals_of Residuals.of_run
residuals_zeros p z = run_zeros (Residuals.target_of p) z (run_of p z).nodes (run_of p z).fate
