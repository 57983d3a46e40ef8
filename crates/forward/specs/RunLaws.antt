-- Laws of the step law that the loop of a run leans on. Assumes nothing.
use Rattle.std.specs.Prelude.{ℕ, ◌+◌, ◌-◌, ◌≤◌, ◌<◌, ◌≡◌, Bool, true, false, cond, List, set, replicate, Float, Err}
use Rattle.std.proofs.Math.Path.{refl}
use Rattle.std.proofs.Common.{sym, ap, ◌∙◌, arith}
use Rattle.std.specs.Float.Ieee.{lt}
use Rattle.common.specs.Iter.{iter}
use Rattle.common.specs.IterLaws.{iter_none, iter_next, iter_stays}
use Rattle.float.specs.Ops.{max}
use Rattle.geom.specs.Vec as Vec
use Rattle.forward.specs.Decisions.{row_of}
use Rattle.forward.specs.Steps.{step}
use Rattle.forward.specs.declared.Body.{Body}
use Rattle.forward.specs.Runs.{Rollout, advance, rollout_by, rollout_turn, start_rollout, rollout, end_by_value, end_of, ended_run, run_from, refused_run, node_of}
use Rattle.forward.specs.declared.BodyState.{BodyState}
use Rattle.forward.specs.declared.Stepped.{Stepped}
use Rattle.forward.specs.declared.Node.{Node}
use Rattle.forward.specs.declared.Run.{Run}
use Rattle.common.specs.Refusals.{Fate, refusal, going}

-- ---- the rollout
-- a rollout that goes on, by its parts, as the loop has them in its locals
abbrev pub going_rollout : BodyState → Float → List Node → Rollout
going_rollout s d ns = record { fate = going; s = s; defect = d; nodes = ns }

pub turn_refused : (b : Body) (n : ℕ) (z : List Float) (k : ℕ) (c : Rollout) {i j : ℕ} → c.fate ≡ Err (refusal i j) → rollout_turn b n z k c ≡ c
unfolding rollout_turn
turn_refused b n z k c h = ap (λ (e : Fate). rollout_by e b n z k c) h

-- the loop makes a step's dynamics before it makes the step: where the dynamics from step k up to i are made, i - k - 1 steps are
pub rollout_none : {A : Type 0} (f : ℕ → A → A) (a : A) (k : ℕ) → a ≡ iter f a (k - k - 1)
rollout_none f a k = let e : 0 ≡ k - k - 1 = omega arith in rw e at (iter_none f a)

pub rollout_waits : {A : Type 0} (f : ℕ → A → A) (a : A) (k i : ℕ) {s : A} → i ≡ k → s ≡ iter f a (i - k - 1) → s ≡ iter f a (i + 1 - k - 1)
rollout_waits f a k i h p = let e : i - k - 1 ≡ i + 1 - k - 1 = omega arith in rw e at p

pub rollout_next : {A : Type 0} (f : ℕ → A → A) (a : A) (k i : ℕ) {s r : A} → k < i → s ≡ iter (λ j. f (j + k)) a (i - k - 1) → r ≡ f (i - 1) s → r ≡ iter (λ j. f (j + k)) a (i + 1 - k - 1)
rollout_next f a k i {s} {r} h p q =
    let e : i - k - 1 + 1 ≡ i + 1 - k - 1 = omega arith in
    let o : i - 1 ≡ i - k - 1 + k = omega arith in
    rw e at (iter_next (λ j. f (j + k)) a (i - k - 1) p (rw o at q))

-- one turn of the loop, by the parts
pub one_turn : (b : Body) (n : ℕ) (z : List Float) (k : ℕ) (s : BodyState) (d : Float) (ns : List Node) {g : Stepped} {node : Node} {d2 : Float}
    → g ≡ step b (row_of n z k) k s → node ≡ node_of b.frame.dt k s g.tau → d2 ≡ max d g.defect → g.fate ≡ going
    → going_rollout g.s d2 (set ns k node) ≡ rollout_turn b n z k (going_rollout s d ns)
unfolding rollout_turn advance
one_turn b n z k s d ns {g} p q r t = rw (← t, r, q, p) refl

-- a step that is refused, as the next rollout
pub refused_turn : (b : Body) (n : ℕ) (z : List Float) (k : ℕ) (s : BodyState) (d : Float) (ns : List Node) {g : Stepped} {i j : ℕ}
    → g ≡ step b (row_of n z k) k s → g.fate ≡ Err (refusal i j) → (rollout_turn b n z k (going_rollout s d ns)).fate ≡ Err (refusal i j)
unfolding rollout_turn advance
refused_turn b n z k s d ns p t = rw (← p) t

-- a refused step ends the run
module _ (b : Body) (n : ℕ) (z : List Float) (from : BodyState) where
  pub ends_refused : (k : ℕ) {i j : ℕ} (c : Rollout) → k < 16 → c ≡ iter (rollout_turn b n z) (start_rollout from) k → (rollout_turn b n z k c).fate ≡ Err (refusal i j) → refused_run i j ≡ run_from b n z from
  unfolding run_from end_of rollout
  ends_refused k {i} {j} c h p q =
      let c2 : Rollout = rollout_turn b n z k c in
      let e : c2 ≡ iter (rollout_turn b n z) (start_rollout from) 16 = iter_stays _ _ (k + 1) 16 (omega arith) (iter_next _ _ k p refl) (λ x. turn_refused b n z x c2 q) in
      rw (← e, q) refl
