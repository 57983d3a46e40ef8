-- One step more of what is known after a run's first steps, and the residuals of a run into rows. Assumes nothing.
use Rattle.std.specs.Prelude.{ℕ, ◌+◌, ◌-◌, ◌≤◌, ◌<◌, ◌≡◌, refl, List, [], length, set, Float, Err}
use Rattle.std.proofs.Common.{sym, ◌∙◌, arith, get_or-set_same, get_or-set_other, below_more}
use Rattle.std.proofs.Math.Path.{ap}
use Rattle.geom.specs.declared.Quat.{Quat}
use Rattle.problem.specs.declared.CheckedProblem.{CheckedProblem}
use Rattle.forward.specs.Runs.{run_of}
use Rattle.forward.specs.PartLaws.{told}
use Rattle.forward.specs.Rows.{node_from, nodes_from, row_at}
use Rattle.forward.specs.RowLaws.{nodes_at}
use Rattle.forward.specs.declared.Node.{Node}
use Rattle.forward.specs.declared.Run.{Run}
use Rattle.forward.specs.declared.Went.{Went}
use Rattle.forward.specs.Runs.{node_at}
use Rattle.residuals.specs.Sums.{energy_of, energy_turn, smooth_of, smooth_turn}
use Rattle.residuals.specs.Residuals.{error_of, refused_residuals, of_nodes, of_run, target_of, residuals_of}
use Rattle.residuals.specs.Begins.{error_in, ErrorsKept}
use Rattle.common.specs.Refusals.{refusal, going}

module _ (v : List (List Float)) (dt : Float) where
  pub energy_turns : (k : ℕ) (e : Float) → k < length v → energy_of (node_from (row_at v k)) dt e ≡ energy_turn (nodes_from v) dt k e
  energy_turns k e h = ap (λ (a : Node). energy_of a dt e) (sym (nodes_at v k h))

  pub smooth_turns : (k j : ℕ) (e : Float) → j ≡ k + 1 → j < length v → smooth_of (node_from (row_at v k)).w (node_from (row_at v j)).w dt e ≡ smooth_turn (nodes_from v) dt k e
  smooth_turns k j e q h =
      ap (λ (a : Node). smooth_of a.w (node_from (row_at v j)).w dt e) (sym (nodes_at v k (omega arith)))
      ∙ (ap (λ (a : Node). smooth_of (node_at (nodes_from v) k).w a.w dt e) (sym (nodes_at v j h)) ∙ ap (λ (i : ℕ). smooth_of (node_at (nodes_from v) k).w (node_at (nodes_from v) i).w dt e) q)

-- the error of node j by its row
pub error_row : (v : List (List Float)) (qf : Quat) (j : ℕ) → j < length v → error_of (node_from (row_at v j)).q qf ≡ error_of (node_at (nodes_from v) j).q qf
error_row v qf j h = ap (λ (a : Node). error_of a.q qf) (sym (nodes_at v j h))

pub errors_next : (qf : Quat) (ns : List Node) (k : ℕ) (errors : List (List Float)) (e : List Float) → k < length errors → error_in e ≡ error_of (node_at ns k).q qf → ErrorsKept qf ns k errors
    → ErrorsKept qf ns (k + 1) (set errors k e)
errors_next qf ns k errors e h q o =
    below_more (λ j. error_in (row_at (set errors k e) j) ≡ error_of (node_at ns j).q qf) k
    (λ j b. ap error_in (get_or-set_other errors k j e [] (λ x. omega arith)) ∙ o j b)
    (ap error_in (get_or-set_same errors k e [] h) ∙ q)

-- ---- the residuals of a run into rows
module _ (p : CheckedProblem) (z : List Float) (w : Went) (v : List (List Float)) (e : told w v ≡ run_of p z) where
  pub told_refused : {n place : ℕ} → w.fate ≡ Err (refusal n place) → refused_residuals n place ≡ residuals_of p z
  unfolding residuals_of of_run told
  told_refused f = ap (λ (x : Run). of_run (target_of p) z x) (rw f at e)

  pub told_going : w.fate ≡ going → of_nodes (target_of p) z (nodes_from v) ≡ residuals_of p z
  unfolding residuals_of of_run told
  told_going f = ap (λ (x : Run). of_run (target_of p) z x) (rw f at e)
