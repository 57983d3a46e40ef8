-- A forward run with nodes is a path, as `reconstruct` gives it. Assumes nothing.
use Rattle.std.specs.Prelude.{◌≡◌, refl, Bool, true, false, cond, List, ℕ, ◌+◌, ◌-◌, ◌*◌, ◌<◌, T, ltb, Float, Ok, Err}
use Rattle.std.proofs.Common.{arith}
use Rattle.std.specs.Float.{binary64}
use Rattle.std.specs.Float.Ieee.{fits}
use Rattle.common.specs.Lists.{at}
use Rattle.float_laws.specs.Finite.{div_finite}
use Rattle.actuators.specs.Maps.{is_sized, is_empty, control_dim, gimbals}
use Rattle.actuators.specs.declared.ActuatorMap.{ActuatorMap}
use Rattle.control_rows.specs.Parts.{width}
use Rattle.problem.specs.Problems.{check, refused}
use Rattle.problem.specs.declared.Problem.{Problem}
use Rattle.problem.specs.declared.CheckedProblem.{CheckedProblem}
use Rattle.forward.specs.Decisions.{row_of, sixteen, step_time}
use Rattle.forward.specs.Runs.{start_of, run_from, end_of, end_by_value, rollout, body_of, run_under, run_of}
use Rattle.forward.specs.declared.BodyState.{BodyState}
use Rattle.float_laws.specs.Unit.{Below1}
use Rattle.controls.specs.Controls.{rig_of}
use Rattle.control_rows.specs.declared.WheelLaw.TheVariants.{Once}
use Rattle.forward.specs.declared.Body.{Body}
use Rattle.forward.specs.Reconstruct.{admit, reconstruct_by, reconstruct_under, reconstruct}
use Rattle.run_laws.specs.Values.{goes}
use Rattle.run_laws.specs.Torques.{at_slice}
use Rattle.run_laws.specs.Runs.{StateOk, start_ok, Flown, Kept, keeps, ended_run_ok}
use Rattle.run_laws.specs.Times.{time_finite}
use Rattle.run_laws.specs.Checked.{FitsP, Ready, check_ready}
use Rattle.run_laws.specs.Paths.{control, Path}
use Rattle.common.specs.Refusals.{Fate}

module _ (b : Body) (n : ℕ) (z : List Float) (from : BodyState) (B : Below1 b.frame.tolerance) (F : (i : ℕ) → T (fits binary64 (at z i))) (S : StateOk b from) where
  -- A RUN WITH NODES
  pub run_flown : T (goes (run_from b n z from).fate) → Flown b n z from B F S (run_from b n z from)
  unfolding run_from end_of
  run_flown t = go (rollout b n z from).fate refl t
    where
      kept : T (goes (rollout b n z from).fate) → Kept b n z from B F S 16 (rollout b n z from)
      kept t = unfold rollout in keeps b n z from B F S 16 (omega arith) t

      go : (e : Fate) → (rollout b n z from).fate ≡ e → T (goes (end_by_value e b (rollout b n z from)).fate) → Flown b n z from B F S (end_by_value e b (rollout b n z from))
      go (Ok _) p t = ended_run_ok b n z from B F S (rollout b n z from) (kept (rw p tt))
      go (Err why) p t = absurd t

-- a control of the decision is one of the row that a step reads
dim_width : (m : ActuatorMap) (i : ℕ) → i < control_dim m → i < width (rig_of m) (gimbals m.cmgs)
unfolding control_dim is_empty width
dim_width m i h = go (is_sized m) h
  where
    go : (b : Bool) → i < cond b (width (rig_of m) (gimbals m.cmgs)) 0 → i < width (rig_of m) (gimbals m.cmgs)
    go true h = h
    go false h = absurd (no h)
      where
        no : i < 0 → ⊥
        no h = omega arith

at_row : (c : ℕ) (z : List Float) (k i : ℕ) → i < c → at (row_of c z k) i ≡ control c z k i
at_row c z k i h = at_slice (1 + k * c) (1 + k * c + c) z i (under (1 + k * c) c i h)
  where
    under : (a c i : ℕ) → i < c → i < a + c - a
    under a c i h = omega arith

-- A RUN of a problem that passed the checks
pub run_path : (p : CheckedProblem) (z : List Float) → Ready p → ((i : ℕ) → T (fits binary64 (at z i))) → T (goes (run_of p z).fate) → Path p z (run_of p z)
unfolding run_under
run_path p z R F t = record {
  duration = div_finite binary64 (at z 0) sixteen W.time;
  controls = λ k h i l. rw (← at_row (control_dim p.map) z k i l) (W.rows k h i (dim_width p.map i l));
  nodes = W.nodes;
  times = λ k h. rw (W.times k h) (time_finite (at z 0) (F 0) W.time k (omega arith));
  stored = W.stored;
  defect = W.defect;
  repeats = W.repeats;
  first = W.first;
}
  where
    b : Body
    b = body_of p (step_time z)

    S : StateOk b (start_of p)
    S = start_ok b _ _ p.q0 _ R.q0 R.momenta

    W : Flown b (control_dim p.map) z (start_of p) R.tolerance F S (run_from b (control_dim p.map) z (start_of p))
    W = run_flown b (control_dim p.map) z (start_of p) R.tolerance F S t

-- an admitted problem is a checked one
admit_is : (p : Problem) → T (goes (admit p).fate) → admit p ≡ check p
unfolding admit
admit_is p t = by (ltb 12 (control_dim (check p).problem.map)) t
  where
    by : (b : Bool) → T (goes (cond b (refused 8 0) (check p)).fate) → cond b (refused 8 0) (check p) ≡ check p
    by true t = absurd t
    by false t = refl

-- RECONSTRUCT, as a user calls it: where it gives nodes, they are a path's
pub reconstruct_path : (p : Problem) (z : List Float) → FitsP p → ((i : ℕ) → T (fits binary64 (at z i))) → T (goes (reconstruct p z).run.fate) → Path (check p).problem z (reconstruct p z).run
unfolding reconstruct_under
reconstruct_path p z F G t = go (admit p).fate refl t
  where
    go : (e : Fate) → (admit p).fate ≡ e → T (goes (reconstruct_by e Once (admit p).problem z).run.fate) → Path (check p).problem z (reconstruct_by e Once (admit p).problem z).run
    go (Ok _) h t = let s : admit p ≡ check p = admit_is p (rw h tt) in rw s (run_path (check p).problem z (check_ready p F (rw (← s, h) tt)) G (rw s at t))
    go (Err why) h t = absurd t
