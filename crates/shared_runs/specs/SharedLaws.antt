-- Two decisions with the same first rows have the same first steps, and what is kept of them stays. Assumes nothing.
use Rattle.std.specs.Prelude.{ℕ, ◌+◌, ◌*◌, ◌-◌, ◌≤◌, ◌<◌, zero, suc, ◌≡◌, length, take, drop, Float, Ok, Err}
use Rattle.std.proofs.Math.Path.{refl, ap}
use Rattle.std.proofs.Common.{sym, subst, ◌∙◌, arith, length-take, length-drop, get_or-take, get_or-drop, ext_get_or}
use mathlib.Core.List.{List}
use Rattle.std.specs.Float.{nan, binary64}
use Rattle.std.specs.Float.Ieee.{div}
use Rattle.common.specs.Iter.{iter}
use Rattle.common.specs.IterLaws.{row_end}
use Rattle.common.specs.Lists.{at, slice}
use Rattle.actuators.specs.Maps.{control_dim}
use Rattle.problem.specs.declared.CheckedProblem.{CheckedProblem}
use Rattle.forward.specs.Decisions.{row_of, sixteen, step_time}
use Rattle.forward.specs.Steps.{step}
use Rattle.forward.specs.declared.Body.{Body}
use Rattle.forward.specs.Runs.{Rollout, advance, rollout_by, rollout_turn, start_rollout, body_of, start_of}
use Rattle.forward.specs.Rows.{node_from, nodes_from, SameBelow}
use Rattle.forward.specs.RowLaws.{nodes_at}
use Rattle.forward.specs.PartLaws.{Alike, rollout_of, stands_same}
use Rattle.forward.specs.declared.Node.{Node}
use Rattle.forward.specs.Runs.{node_at}
use Rattle.residuals.specs.Sums.{energy_of, smooth_of}
use Rattle.residuals.specs.Residuals.{error_of, target_of}
use Rattle.residuals.specs.Begins.{Summed, Begins}
use Rattle.residuals.specs.declared.Begun.{Begun}
use Rattle.residuals.specs.declared.Target.{Target}
use Rattle.shared_runs.specs.Shared.{Agree, Same, After, Kept}
use Rattle.shared_runs.specs.declared.Base.{Base}
use Rattle.common.specs.Refusals.{Fate}

-- two loops whose turns agree below k come to the same
iter_agree : {A : Type 0} (f g : ℕ → A → A) (a : A) (k : ℕ) → ((j : ℕ) → j < k → (s : A) → f j s ≡ g j s) → iter f a k ≡ iter g a k
unfolding iter
iter_agree f g a zero h = refl
iter_agree f g a (suc k) h = ap (f k) (iter_agree f g a k (λ j l s. h j (omega arith) s)) ∙ h k (omega arith) (iter g a k)

module _ (n k : ℕ) (y z : List Float) (long : length y ≡ length z) (same : Agree (1 + k * n) y z) where
  sizes : (a e : ℕ) → length (slice a e y) ≡ length (slice a e z)
  sizes a e =
      length-take (e - a) (drop a y) ∙ (rw (length-drop a y, long, ← length-drop a z) refl ∙ sym (length-take (e - a) (drop a z)))

  row_same : (j : ℕ) → j < k → row_of n y j ≡ row_of n z j
  row_same j l =
      ext_get_or nan (row_of n y j) (row_of n z j) (sizes (1 + j * n) (1 + j * n + n))
      (λ i h.
      let w : i < 1 + j * n + n - (1 + j * n) = omega (arith, length-take (1 + j * n + n - (1 + j * n)) (drop (1 + j * n) y)) in
      get_or-take (1 + j * n + n - (1 + j * n)) (drop (1 + j * n) y) i nan w
      ∙ (get_or-drop (1 + j * n) y i nan
      ∙ (same (1 + j * n + i) (omega (arith, row_end j k n l))
      ∙ sym (get_or-take (1 + j * n + n - (1 + j * n)) (drop (1 + j * n) z) i nan w ∙ get_or-drop (1 + j * n) z i nan))))

  turn_same : (b : Body) (j : ℕ) → j < k → (c : Rollout) → rollout_turn b n z j c ≡ rollout_turn b n y j c
  unfolding rollout_turn
  turn_same b j l c = by c.fate
    where
      by : (f : Fate) → rollout_by f b n z j c ≡ rollout_by f b n y j c
      by (Ok _) = ap (λ (u : List Float). advance b.frame.dt j c (step b u j c.s)) (sym (row_same j l))
      by (Err why) = refl

  time_same : step_time z ≡ step_time y
  time_same = ap (λ (x : Float). div binary64 x sixteen) (sym (same 0 (omega arith)))

-- ---- rows of which the first k stay
module _ (k : ℕ) (v u : List (List Float)) (few : k ≤ 16) (long : length v ≡ 17) (size : length u ≡ 17) (same : SameBelow k v u) where
  node_same : (j : ℕ) → j < k → node_at (nodes_from v) j ≡ node_at (nodes_from u) j
  node_same j l = nodes_at v j (omega arith) ∙ (ap node_from (sym (same j l)) ∙ sym (nodes_at u j (omega arith)))

  sums_same : (dt : Float) (s : Begun) → Summed dt v k s → Summed dt u k s
  sums_same dt s h = record {
    few = few;
    long = size;
    energy = h.energy ∙ iter_agree _ _ _ k (λ j l e. ap (λ (a : Node). energy_of a dt e) (node_same j l));
    smooth = h.smooth
        ∙ iter_agree _ _ _ (k - 1)
        (λ j l e. ap (λ (a : Node). smooth_of a.w (node_at (nodes_from v) (j + 1)).w dt e) (node_same j (omega arith)) ∙ ap (λ (a : Node). smooth_of (node_at (nodes_from u) j).w a.w dt e) (node_same (j + 1) (omega arith)));
  }

  -- what is known of the first k steps stays
  pub begins_same : (t : Target) (dt : Float) (s : Begun) (errors : List (List Float)) → Begins t dt v k s errors → Begins t dt u k s errors
  begins_same t dt s errors h = record { sums = sums_same dt s h.sums; kept = λ p j l. h.kept p j l ∙ ap (λ (a : Node). error_of a.q t.qf) (node_same j l) }

-- a base run that is kept stays so where its rows stay
pub kept_same : (p : CheckedProblem) (z : List Float) (b : Base) (v u errors : List (List Float)) → length u ≡ length v → SameBelow b.steps v u → Kept p z b v errors → Kept p z b u errors
kept_same p z b v u errors size same h =
    let few = h.begins.sums.few in
    let long = h.begins.sums.long in
    record {
      skew = h.skew;
      sound = h.sound;
      after = stands_same _ _ _ _ b.at v u (omega arith) (size ∙ long) long same h.after;
      begins = begins_same b.steps v u few long (size ∙ long) same (target_of p) (step_time z) b.sums errors h.begins;
    }

-- ---- what is kept of the run of z is the beginning of the run of y
module _ (p : CheckedProblem) (n : ℕ) (z y : List Float) (b : Base) (v errors : List (List Float)) (e : n ≡ control_dim p.map) (h : Kept p z b v errors) (s : Same (1 + b.steps * n) y z) where
  pub after_shared : After p y b.steps b.at v
  after_shared =
      rw (← e)
      (subst (λ (x : Rollout). Alike b.steps (rollout_of b.at v) x)
      (ap (λ (t : Float). iter (rollout_turn (body_of p t) n z) (start_rollout (start_of p)) b.steps) (time_same n b.steps y z s.long s.agree)
      ∙ iter_agree (rollout_turn (body_of p (step_time y)) n z) (rollout_turn (body_of p (step_time y)) n y) (start_rollout (start_of p)) b.steps (turn_same n b.steps y z s.long s.agree (body_of p (step_time y))))
      (rw (← e) at h.after))

  pub begins_shared : Begins (target_of p) (step_time y) v b.steps b.sums errors
  begins_shared = subst (λ (t : Float). Begins (target_of p) t v b.steps b.sums errors) (time_same n b.steps y z s.long s.agree) h.begins
