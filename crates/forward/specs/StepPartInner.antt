-- A step in two parts: its dynamics, which are all that it gives but for the attitude, and its attitude. Both together are the step law's step. Assumes nothing.
use Rattle.std.specs.Prelude.{ℕ, ◌+◌, ◌-◌, ◌<◌, ◌≤◌, ◌≡◌, refl, List, Float, Option, Some, None, Result, Ok, Err}
use Rattle.std.proofs.Common.{sym, ap, ◌∙◌, subst, arith}
use Rattle.std.specs.Float.{binary64}
use Rattle.float.specs.Sqrt.{sqrt}
use Rattle.geom.specs.Quats.{quat_mul, normalized, norm3, exp_at}
use Rattle.control_rows.specs.Parts.{row_torque}
use Rattle.geom.specs.declared.Quat.{Quat}
use Rattle.forward.specs.Decisions.{row_of}
use Rattle.forward.specs.Steps.{stop, rate_dot, rate_next, defect_of, turn_of, attitude_step, normed_step, turned_step, step}
use Rattle.forward.specs.declared.Body.{Body}
use Rattle.forward.specs.StepLaws.{Made, refused_going, turned_is}
use Rattle.forward.specs.declared.Dynamics.{Dynamics}
use Rattle.forward.specs.declared.BodyState.{BodyState}
use Rattle.forward.specs.declared.Stepped.{Stepped}
use Rattle.common.specs.declared.Refusal.{Refusal}
use Rattle.common.specs.Refusals.{Fate, refusal, going}

-- ---- the attitude
abbrev pub normed_to : Option Quat → Result Quat Refusal
normed_to None = Err (refusal 5 2)
normed_to (Some q) = Ok q

-- the attitude q after the turn of step k
abbrev pub turned_to : Option Quat → Float → Quat → ℕ → Result Quat Refusal
turned_to None tolerance q k = Err (refusal 11 k)
turned_to (Some e) tolerance q k = normed_to (normalized tolerance (quat_mul q e))

-- the same by the turn's length, already worked out
pub attitude_by_length : {t : Result Quat Refusal} {y : Option Quat} {n : Float} (v : List Float) (tolerance : Float) (q : Quat) (k : ℕ) → t ≡ turned_to y tolerance q k → y ≡ exp_at v n → n ≡ norm3 v
    → t ≡ turned_to (exp_at v (norm3 v)) tolerance q k
attitude_by_length v tolerance q k e f g = e ∙ ap (λ (y : Option Quat). turned_to y tolerance q k) (f ∙ ap (exp_at v) g)

-- ---- the dynamics
abbrev pub dynamics_from : List Float → Float → List Float → BodyState → List Float → Dynamics
dynamics_from tau square turn s a = record { fate = going; tau = tau; square = square; turn = turn; s = s; a = a }

-- with the rate w2 at its end, and the rest of the state as it was
abbrev pub dynamics_at : List Float → Float → List Float → List Float → BodyState → List Float → Dynamics
dynamics_at tau square w2 turn s a = dynamics_from tau square turn (record { q = s.q; w = w2; h = s.h; hw = s.hw; delta = s.delta }) a

-- gimbals or power refuse the step
abbrev pub refuse_dynamics : ℕ → ℕ → Dynamics → Dynamics
refuse_dynamics n place l = record { fate = Err (refusal n place); tau = l.tau; square = l.square; turn = l.turn; s = l.s; a = l.a }

-- ---- both together: the step from s
abbrev pub joined_at : Fate → Quat → Dynamics → BodyState → Stepped
joined_at (Err why) q2 l s = stop why.number why.place s
joined_at (Ok _) q2 l s = record { fate = going; s = record { q = q2; w = l.s.w; h = l.s.h; hw = l.s.hw; delta = l.s.delta }; tau = l.tau; defect = sqrt binary64 l.square }

abbrev pub joined : Result Quat Refusal → Dynamics → BodyState → Stepped
joined (Err why) l s = stop why.number why.place s
joined (Ok q2) l s = joined_at l.fate q2 l s

-- the state s with the attitude q
abbrev pub with_attitude : Quat → BodyState → BodyState
with_attitude q s = record { q = q; w = s.w; h = s.h; hw = s.hw; delta = s.delta }

-- the dynamics x are l with the gimbals, the power and the momenta of the step from s, whatever its attitude
pub record Finished (b : Body) (u : List Float) (k : ℕ) (s : BodyState) (l x : Dynamics) : Type 0 where
  pub turn : x.turn ≡ l.turn
  pub ends : (q q2 : Quat) → joined_at x.fate q2 x (with_attitude q s) ≡ attitude_step b u k (with_attitude q s) l.tau (sqrt binary64 l.square) l.s.w q2
  pub hands : x.fate ≡ going → Made b.rig.cmgs x.s.delta x.a

-- the dynamics l are those of the step from s, whatever its attitude
pub record DynamicsOf (b : Body) (u : List Float) (k : ℕ) (s : BodyState) (l : Dynamics) : Type 0 where
  pub steps : (q : Quat) → joined (turned_to (exp_at l.turn (norm3 l.turn)) b.frame.tolerance q k) l (with_attitude q s) ≡ step b u k (with_attitude q s)
  pub hands : l.fate ≡ going → Made b.rig.cmgs l.s.delta l.a

-- ---- dynamics whose end is known, and a turn: the stages after the turn
module _ (b : Body) (u : List Float) (k : ℕ) (s : BodyState) (l : Dynamics) (tau : List Float) (defect : Float) (w2 : List Float)
    (ends : (q2 : Quat) → joined_at l.fate q2 l s ≡ attitude_step b u k s tau defect w2 q2) where
  normed_joined : (y : Option Quat) → joined (normed_to y) l s ≡ normed_step y b u k s tau defect w2
  normed_joined None = refl
  normed_joined (Some q2) = ends q2

  pub turned_joined : (x : Option Quat) → joined (turned_to x b.frame.tolerance s.q k) l s ≡ turned_step x b u k s tau defect w2
  turned_joined None = refl
  turned_joined (Some e) = normed_joined (normalized b.frame.tolerance (quat_mul s.q e))

-- ---- dynamics by the parts that the code works out
module _ (b : Body) (u : List Float) (k : ℕ) (s : BodyState) (l : Dynamics) where
  pub finished_refused : {x : Dynamics} {n i : ℕ} → x ≡ refuse_dynamics n i l → ((q q2 : Quat) → stop n i (with_attitude q s) ≡ attitude_step b u k (with_attitude q s) l.tau (sqrt binary64 l.square) l.s.w q2)
      → Finished b u k s l x
  finished_refused e h = rw e (record { turn = refl; ends = h; hands = λ z. absurd (refused_going z) })

  pub finished_going : {x : Dynamics} {h hw d a : List Float} → x ≡ dynamics_from l.tau l.square l.turn (record { q = l.s.q; w = l.s.w; h = h; hw = hw; delta = d }) a
      → ((q q2 : Quat) → ◌≡◌ {A = Stepped} (record { fate = going; s = record { q = q2; w = l.s.w; h = h; hw = hw; delta = d }; tau = l.tau; defect = sqrt binary64 l.square })
      (attitude_step b u k (with_attitude q s) l.tau (sqrt binary64 l.square) l.s.w q2))
      → Made b.rig.cmgs d a → Finished b u k s l x
  finished_going e h m = rw e (record { turn = refl; ends = h; hands = λ z. m })

pub dynamics_finished : (b : Body) (u : List Float) (k : ℕ) (s : BodyState) (square : Float) {x : Dynamics} {a tau wd w2 v : List Float} → Finished b u k s (dynamics_at tau square w2 v s a) x
    → Made b.rig.cmgs s.delta a → tau ≡ row_torque b.rig b.wheels b.thrusters u s.w s.h a → wd ≡ rate_dot b.frame.j b.frame.jinv s.w s.h tau
    → w2 ≡ rate_next s.w wd b.frame.dt → sqrt binary64 square ≡ defect_of b.frame.j s.w s.h tau wd → v ≡ turn_of s.w w2 b.frame.dt → DynamicsOf b u k s x
dynamics_finished b u k s square {x} {a} {tau} {wd} {w2} {v} e m t d r f g = record {
  steps = λ q. turned_joined b u k (with_attitude q s) x tau (sqrt binary64 square) w2 (e.ends q) (exp_at x.turn (norm3 x.turn))
      ∙ (ap (λ (y : Option Quat). turned_step y b u k (with_attitude q s) tau (sqrt binary64 square) w2) same_turn ∙ turned_is b u k (with_attitude q s) m t d r f g);
  hands = e.hands;
}
  where
    same_turn : exp_at x.turn (norm3 x.turn) ≡ exp_at v (norm3 v)
    same_turn = rw e.turn refl

-- ---- where a step goes on, its dynamics did, and its end is theirs but for the attitude
pub record Follows (l : Dynamics) (s : BodyState) : Type 0 where
  pub goes : l.fate ≡ going
  pub same : (q : Quat) → with_attitude q l.s ≡ with_attitude q s

follows_at : (f : Fate) (q2 : Quat) (l : Dynamics) (s : BodyState) {g : Stepped} → l.fate ≡ f → g ≡ joined_at f q2 l s → g.fate ≡ going → Follows l g.s
follows_at (Err why) q2 l s e h o = absurd (refused_going (ap (λ (x : Stepped). x.fate) (sym h) ∙ o))
follows_at (Ok _) q2 l s e h o = record { goes = e; same = λ q. ap (λ (x : Stepped). with_attitude q x.s) (sym h) }

pub follows : (t : Result Quat Refusal) (l : Dynamics) (s : BodyState) {g : Stepped} → g ≡ joined t l s → g.fate ≡ going → Follows l g.s
follows (Err why) l s h o = absurd (refused_going (ap (λ (x : Stepped). x.fate) (sym h) ∙ o))
follows (Ok q2) l s h o = follows_at l.fate q2 l s refl h o

-- dynamics are those of every state that differs in the attitude alone
pub dynamics_same : (b : Body) (u : List Float) (k : ℕ) {s s2 : BodyState} {l : Dynamics} → ((q : Quat) → with_attitude q s ≡ with_attitude q s2) → DynamicsOf b u k s l → DynamicsOf b u k s2 l
dynamics_same b u k {s} {s2} {l} e h = record {
  steps = λ q. subst (λ (x : BodyState). joined (turned_to (exp_at l.turn (norm3 l.turn)) b.frame.tolerance q k) l x ≡ step b u k x) (e q) (h.steps q);
  hands = h.hands;
}

-- x are the dynamics of step i from where l, those of the step before, end; from step `end` on l stays
pub record Next (b : Body) (n : ℕ) (z : List Float) (i end : ℕ) (l x : Dynamics) : Type 0 where
  pub dynamics : i < end → Made b.rig.cmgs l.s.delta l.a → DynamicsOf b (row_of n z i) i l.s x
  pub stays : end ≤ i → x ≡ l

-- ---- the loop of steps k up to `end`, where the dynamics below i are made: at first the dynamics l end in the start s, then they are those of the step from s, at last they have the matrix in s
pub record Pipelined (b : Body) (n : ℕ) (z : List Float) (k end i : ℕ) (s : BodyState) (l : Dynamics) : Type 0 where
  pub first : i ≡ k → (l.s ≡ s) × Made b.rig.cmgs l.s.delta l.a
  pub later : k < i → i ≤ end → DynamicsOf b (row_of n z (i - 1)) (i - 1) s l
  pub past : end < i → Made b.rig.cmgs s.delta l.a

module _ (b : Body) (n : ℕ) (z : List Float) (k end i : ℕ) {s : BodyState} {l : Dynamics} (c : Pipelined b n z k end i s l) where
  pub pipelined_step : {t : Result Quat Refusal} {g : Stepped} → k < i → i ≤ end → t ≡ turned_to (exp_at l.turn (norm3 l.turn)) b.frame.tolerance s.q (i - 1) → g ≡ joined t l s
      → g ≡ step b (row_of n z (i - 1)) (i - 1) s
  pipelined_step h m e j = j ∙ (ap (λ (y : Result Quat Refusal). joined y l s) e ∙ (c.later h m).steps s.q)

  module _ {x : Dynamics} (a : Next b n z i end l x) where
    next_by_law : {s2 : BodyState} → k ≤ i → ((q : Quat) → with_attitude q l.s ≡ with_attitude q s2) → Made b.rig.cmgs l.s.delta l.a → Pipelined b n z k end (i + 1) s2 x
    next_by_law {s2} o e m = record {
      first = λ h. absurd (omega arith);
      later = λ h f. subst (λ (j : ℕ). DynamicsOf b (row_of n z j) j s2 x) (omega arith) (dynamics_same b (row_of n z i) i e (a.dynamics (omega arith) m));
      past = λ h. rw (a.stays (omega arith), ← ap (λ (y : BodyState). y.delta) (e l.s.q)) m;
    }

    pub pipelined_first : i ≡ k → Pipelined b n z k end (i + 1) s x
    pipelined_first h = next_by_law (omega arith) (λ q. ap (with_attitude q) (c.first h).0) (c.first h).1

    pub pipelined_next : {t : Result Quat Refusal} {g : Stepped} → k < i → i ≤ end → t ≡ turned_to (exp_at l.turn (norm3 l.turn)) b.frame.tolerance s.q (i - 1) → g ≡ joined t l s → g.fate ≡ going
        → Pipelined b n z k end (i + 1) g.s x
    pipelined_next {t} h m e j o = let f = follows t l s j o in next_by_law (omega arith) f.same ((c.later h m).hands f.goes)
