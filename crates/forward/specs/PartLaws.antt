-- A run part of the way, as the code keeps it, with its nodes in lent rows, and the rest of its steps. Assumes nothing.
use Prim.Native.Nat.{ℕ, zero, suc, ◌+◌, ◌-◌, ◌≤◌, ◌<◌}
use Rattle.std.specs.Prelude.{◌≡◌, true, List, T, length, get_or, set, Float, Ok, Err}
use Rattle.std.proofs.Math.Path.{refl, sym, ap}
use Rattle.std.proofs.Common.{subst, ◌∙◌, suc-add, ext_get_or, get_or-set_same, get_or-set_other, below_more}
use Rattle.std.proofs.Math.Nat.{zero-add}
use native.Mathlib.Omega.{arith}
use Rattle.std.proofs.Math.ListN.{length-set}
use Rattle.std.specs.Float.{binary64}
use Rattle.std.specs.Float.Ieee.{of_bits}
use Rattle.common.specs.Floats as Floats
use Rattle.common.specs.Iter.{iter}
use Rattle.common.specs.IterLaws.{iter_none, iter_next, iter_stays}
use Rattle.float.specs.Sqrt.{sqrt}
use Rattle.geom.specs.Vec as Vec
use Rattle.actuators.specs.Maps.{control_dim, is_sized}
use Rattle.control_rows.specs.declared.Rig.{Rig}
use Rattle.control_rows.specs.declared.WheelLaw.{WheelLaw}
use Rattle.controls.specs.Controls.{rig_under}
use Rattle.problem.specs.declared.CheckedProblem.{CheckedProblem}
use Rattle.forward.specs.Decisions.{step_time}
use Rattle.forward.specs.DefectLaws.{upright}
use Rattle.forward.specs.declared.Body.{Body}
use Rattle.forward.specs.StepLaws.{AnglesOf, Made}
use Rattle.forward.specs.Runs.{Rollout, advance, rollout_turn, start_rollout, rollout, onward, end_by_value, end_of, ended_run, run_from, refused_run, node_of, no_node, body_under}
use Rattle.forward.specs.RunLaws.{going_rollout, turn_refused}
use Rattle.forward.specs.Rows.{torque_in, node_from, nodes_from, row_at, SameBelow}
use Rattle.forward.specs.RowLaws.{nodes_set, nodes_at, nodes_length, below_set}
use Rattle.forward.specs.declared.Skew.{Skew}
use Rattle.forward.specs.declared.BodyState.{BodyState}
use Rattle.forward.specs.declared.Node.{Node}
use Rattle.forward.specs.declared.Partway.{Partway}
use Rattle.forward.specs.declared.Went.{Went}
use Rattle.forward.specs.declared.Run.{Run}
use Rattle.common.specs.Refusals.{Fate, refusal, going}

-- the rollout that it stands for with the rows v: the largest defect is kept squared
abbrev pub rollout_of : Partway → List (List Float) → Rollout
rollout_of c v = going_rollout c.s (sqrt binary64 c.square) (nodes_from v)

abbrev pub unbegun : BodyState → List Float → Partway
unbegun s a = record { s = s; a = a; square = Floats.plus_zero }

-- the pyramid's matrix is that of the state, and the square has a plus sign
pub record Sound (r : Rig) (c : Partway) : Type 0 where
  pub matrix : Made r.cmgs c.s.delta c.a
  pub plus : T (upright c.square)

-- a problem that runs may take, what is known of its pyramid's angles, and a run of it part of the way
pub record Fits (law : WheelLaw) (p : CheckedProblem) (skew : Skew) (known : List Float) (c : Partway) : Type 0 where
  pub sized : is_sized p.map ≡ true
  pub narrow : control_dim p.map ≤ 12
  pub angles : AnglesOf p.map.cmgs skew known
  pub sound : Sound (rig_under law p.map) c

-- x with the rows u is what steps k up to `end` make of c with the rows v
pub record Reached (b : Body) (n : ℕ) (z : List Float) (k end : ℕ) (c : Partway) (v : List (List Float)) (x : Went) (u : List (List Float)) : Type 0 where
  pub fates : x.fate ≡ (onward b n z k (rollout_of c v) (end - k)).fate
  pub goes : x.fate ≡ going → rollout_of x.at u ≡ onward b n z k (rollout_of c v) (end - k)
  pub sound : x.fate ≡ going → Sound b.rig x.at
  pub below : SameBelow k v u
  pub size : length u ≡ length v

never : {A : Type 0} {u v : ℕ} → Err (refusal u v) ≡ going → A
never w = let t : ◌≡◌ {A = ℕ} 0 1 = cc in absurd (omega arith)

-- of a problem and a decision
abbrev pub ReachedUnder : WheelLaw → CheckedProblem → List Float → ℕ → ℕ → Partway → List (List Float) → Went → List (List Float) → Type 0
ReachedUnder law p z k end c v x u = Reached (body_under law p (step_time z)) (control_dim p.map) z k end c v x u

-- ---- how steps end
module _ (b : Body) (n : ℕ) (z : List Float) (k end : ℕ) (c : Partway) (v : List (List Float)) where
  -- step i is refused
  pub reached_refused : (i : ℕ) (p : Rollout) {x : Went} {u : List (List Float)} {h j : ℕ} → k < i → i ≤ end → p ≡ iter (λ (d : ℕ). rollout_turn b n z (d + k)) (rollout_of c v) (i - k - 1)
      → (rollout_turn b n z (i - 1) p).fate ≡ Err (refusal h j) → x.fate ≡ Err (refusal h j) → SameBelow k v u → length u ≡ length v → Reached b n z k end c v x u
  unfolding onward
  reached_refused i p {x} {u} {h} {j} l m e q f s t =
      let p2 : Rollout = rollout_turn b n z (i - 1) p in
      let o : i - 1 ≡ i - k - 1 + k = omega arith in
      let next : p2 ≡ rollout_turn b n z (i - k - 1 + k) p = ap (λ (d : ℕ). rollout_turn b n z d p) o in
      let all : p2 ≡ iter (λ (d : ℕ). rollout_turn b n z (d + k)) (rollout_of c v) (end - k) =
      iter_stays _ _ (i - k - 1 + 1) (end - k) (omega arith) (iter_next _ _ (i - k - 1) e next) (λ d. turn_refused b n z (d + k) p2 q) in
      record {
        fates = f ∙ (sym q ∙ ap (λ (y : Rollout). y.fate) all);
        goes = λ g. never (sym f ∙ g);
        sound = λ g. never (sym f ∙ g);
        below = s;
        size = t;
      }

  -- all of them went on
  pub reached_going : {x : Went} {u : List (List Float)} → x.fate ≡ going → rollout_of x.at u ≡ iter (λ (d : ℕ). rollout_turn b n z (d + k)) (rollout_of c v) (end - k) → Sound b.rig x.at
      → SameBelow k v u → length u ≡ length v → Reached b n z k end c v x u
  unfolding onward
  reached_going {x} f e s o t = record { fates = f ∙ ap (λ (y : Rollout). y.fate) e; goes = λ g. e; sound = λ g. s; below = o; size = t }

-- ---- rollouts whose first nodes are the same: what stands in the others no step reads
pub record Alike (k : ℕ) (x y : Rollout) : Type 0 where
  pub fates : x.fate ≡ y.fate
  pub states : x.fate ≡ going → x.s ≡ y.s
  pub defects : x.fate ≡ going → x.defect ≡ y.defect
  pub nodes : x.fate ≡ going → (i : ℕ) → i < k → get_or x.nodes i no_node ≡ get_or y.nodes i no_node
  pub long : length x.nodes ≡ 17
  pub size : length y.nodes ≡ 17

-- one node more
nodes_more : (k : ℕ) (l m : List Node) (a : Node) → k < length l → k < length m → ((i : ℕ) → i < k → get_or l i no_node ≡ get_or m i no_node)
    → (i : ℕ) → i < k + 1 → get_or (set l k a) i no_node ≡ get_or (set m k a) i no_node
nodes_more k l m a h o e =
    below_more (λ i. get_or (set l k a) i no_node ≡ get_or (set m k a) i no_node) k
    (λ i b. get_or-set_other l k i a no_node (λ q. omega arith) ∙ (e i b ∙ sym (get_or-set_other m k i a no_node (λ q. omega arith))))
    (get_or-set_same l k a no_node h ∙ sym (get_or-set_same m k a no_node o))

module _ (b : Body) (n : ℕ) (z : List Float) where
  -- one step more
  alike_goes : (k : ℕ) (x y : Rollout) → x.fate ≡ going → k < 17 → Alike k x y → Alike (k + 1) (rollout_turn b n z k x) (rollout_turn b n z k y)
  unfolding rollout_turn advance
  alike_goes k x y e h o =
      rw (← o.fates, e, ← o.states e, ← o.defects e)
      (record {
        fates = refl;
        states = λ g. refl;
        defects = λ g. refl;
        nodes = λ g. nodes_more k x.nodes y.nodes _ (omega (arith, o.long)) (omega (arith, o.size)) (o.nodes e);
        long = length-set x.nodes k _ ∙ o.long;
        size = length-set y.nodes k _ ∙ o.size;
      })

  alike_by : (k : ℕ) (x y : Rollout) (f : Fate) → x.fate ≡ f → k < 17 → Alike k x y → Alike (k + 1) (rollout_turn b n z k x) (rollout_turn b n z k y)
  alike_by k x y (Ok _) e h o = alike_goes k x y e h o
  alike_by k x y (Err why) e h o =
      rw (turn_refused b n z k x e, turn_refused b n z k y (sym o.fates ∙ e))
      (record {
        fates = o.fates;
        states = o.states;
        defects = o.defects;
        nodes = λ g. never (sym e ∙ g);
        long = o.long;
        size = o.size;
      })

  -- d steps more
  alike_on : (k : ℕ) (x y : Rollout) (d : ℕ) → d + k ≤ 17 → Alike k x y → Alike (d + k) (iter (λ (j : ℕ). rollout_turn b n z (j + k)) x d) (iter (λ (j : ℕ). rollout_turn b n z (j + k)) y d)
  unfolding iter
  alike_on k x y zero h o = rw zero-add o
  alike_on k x y (suc d) h o =
      let e : d + k + 1 ≡ suc d + k = omega arith in
      rw e at (alike_by (d + k) _ _ _ refl (omega arith) (alike_on k x y d (omega arith) o))

-- ---- the whole run: that of x, which went through all steps, with the rows u
abbrev told_by : Fate → Partway → List (List Float) → Run
told_by (Ok _) c u = record { fate = going; defect = sqrt binary64 c.square; nodes = nodes_from u }
told_by (Err why) c u = refused_run why.number why.place

unfoldable pub told : Went → List (List Float) → Run
told x u = told_by x.fate x.at u

-- d turns more after the first k
pub iter_on : {A : Type 0} (f : ℕ → A → A) (a : A) (k d : ℕ) → iter (λ j. f (j + k)) (iter f a k) d ≡ iter f a (d + k)
unfolding iter
iter_on f a k zero = rw zero-add refl
iter_on f a k (suc d) = rw suc-add (ap (f (d + k)) (iter_on f a k d))

module _ (b : Body) (n : ℕ) (z : List Float) (from : BodyState) where
  -- c with the first k of the rows v is the run from `from` after k steps
  abbrev pub Stands : ℕ → Partway → List (List Float) → Type 0
  Stands k c v = Alike k (rollout_of c v) (iter (rollout_turn b n z) (start_rollout from) k)

  pub stands_first : (a : List Float) (v : List (List Float)) → length v ≡ 17 → Stands 0 (unbegun from a) v
  unfolding sqrt of_bits iter
  stands_first a v h = record { fates = refl; states = λ g. refl; defects = λ g. refl; nodes = λ g i l. absurd (omega arith); long = nodes_length v ∙ h; size = refl }

  pub stands_long : {k : ℕ} (c : Partway) (v : List (List Float)) → Stands k c v → length v ≡ 17
  stands_long c v h = sym (nodes_length v) ∙ h.long

  -- the rows from k on may be written
  pub stands_same : {k : ℕ} (c : Partway) (v u : List (List Float)) → k ≤ 17 → length u ≡ 17 → length v ≡ 17 → SameBelow k v u → Stands k c v → Stands k c u
  stands_same {k} c v u m h o s e = record {
    fates = e.fates;
    states = e.states;
    defects = e.defects;
    nodes = λ g i l. nodes_at u i (omega arith) ∙ (ap node_from (s i l) ∙ (sym (nodes_at v i (omega arith)) ∙ e.nodes g i l));
    long = nodes_length u ∙ h;
    size = e.size;
  }

  module _ {k end : ℕ} {c : Partway} {v u : List (List Float)} {x : Went} (h : Stands k c v) (l : k ≤ end) (m : end ≤ 16) (r : Reached b n z k end c v x u) where
    further : Alike end (onward b n z k (rollout_of c v) (end - k)) (iter (rollout_turn b n z) (start_rollout from) end)
    unfolding onward
    further =
        let e : end - k + k ≡ end = omega arith in
        rw e at (rw (iter_on (rollout_turn b n z) (start_rollout from) k (end - k)) at (alike_on b n z k (rollout_of c v) (iter (rollout_turn b n z) (start_rollout from) k) (end - k) (omega arith) h))

    pub stands_on : x.fate ≡ going → Stands end x.at u
    stands_on g = rw (r.goes g) further

-- two lists of 17 nodes with the same first 16, and the same last one set
last_same : (l m : List Node) (a : Node) → length l ≡ 17 → length m ≡ 17 → ((i : ℕ) → i < 16 → get_or l i no_node ≡ get_or m i no_node) → set l 16 a ≡ set m 16 a
last_same l m a h o e =
    ext_get_or no_node (set l 16 a) (set m 16 a) (length-set l 16 a ∙ (h ∙ sym (length-set m 16 a ∙ o)))
    (λ i b. nodes_more 16 l m a (omega arith) (omega arith) e i (omega (arith, length-set l 16 a)))

abbrev ending : Float → List Node → Run
ending d ns = record { fate = going; defect = d; nodes = ns }

ended_run_alike : (b : Body) (x y : Rollout) → x.fate ≡ going → Alike 16 x y → ended_run b x ≡ ended_run b y
ended_run_alike b x y e o =
    rw (← o.states e, ← o.defects e, ← o.nodes e 15 (omega arith))
    (ap (λ (ns : List Node). ending x.defect ns) (last_same x.nodes y.nodes _ o.long o.size (o.nodes e)))

-- u is the rows v with the last node of the run x in its dt: it repeats the torque of the one before
abbrev pub Lasts : Float → Went → List (List Float) → List (List Float) → Type 0
Lasts dt x v u = x.fate ≡ going → nodes_from u ≡ set (nodes_from v) 16 (node_of dt 16 x.at.s (get_or (nodes_from v) 15 no_node).tau)

lasts_set : (dt : Float) (x : Went) (v : List (List Float)) (r : List Float) {tau : List Float} → 15 < length v → tau ≡ torque_in (row_at v 15) → node_from r ≡ node_of dt 16 x.at.s tau
    → Lasts dt x v (set v 16 r)
unfolding node_from
lasts_set dt x v r h t e g =
    nodes_set v 16 r ∙ ap (λ (a : Node). set (nodes_from v) 16 a) (e ∙ ap (node_of dt 16 x.at.s) (t ∙ sym (ap (λ (a : Node). a.tau) (nodes_at v 15 h))))

module _ (b : Body) (n : ℕ) (z : List Float) (from : BodyState) where
  module _ {k : ℕ} {c : Partway} {v u : List (List Float)} {x : Went} (h : Stands b n z from k c v) (l : k ≤ 16) (r : Reached b n z k 16 c v x u) where
    ended_run_by : (w : List (List Float)) (f : Fate) → x.fate ≡ f → Lasts b.frame.dt x u w → told x w ≡ end_of b (rollout b n z from)
    unfolding told end_of rollout
    ended_run_by w (Ok _) e last =
        let a = stands_on b n z from h l (omega arith) r e in
        let goes = ap (λ (g : Fate). end_by_value g b (iter (rollout_turn b n z) (start_rollout from) 16)) (sym a.fates) in
        rw (e, last e) (ended_run_alike b (rollout_of x.at u) (iter (rollout_turn b n z) (start_rollout from) 16) refl a ∙ sym goes)
    ended_run_by w (Err why) e last =
        let a = further b n z from h l (omega arith) r in
        rw (e) (sym (ap (λ (g : Fate). end_by_value g b (iter (rollout_turn b n z) (start_rollout from) 16)) (sym a.fates ∙ (sym r.fates ∙ e))))

    -- a run that goes on from there is the whole run
    ends_whole : (w : List (List Float)) → Lasts b.frame.dt x u w → told x w ≡ run_from b n z from
    unfolding run_from
    ends_whole w last = ended_run_by w x.fate refl last

-- x with the rows u is the rest of the run after its first k steps, which are c with the rows v
pub record Ran (b : Body) (n : ℕ) (z : List Float) (k : ℕ) (c : Partway) (v : List (List Float)) (x : Went) (u : List (List Float)) : Type 0 where
  pub whole : (from : BodyState) → Stands b n z from k c v → told x u ≡ run_from b n z from
  pub below : SameBelow k v u
  pub size : length u ≡ length v

module _ (b : Body) (n : ℕ) (z : List Float) (k : ℕ) (c : Partway) (v : List (List Float)) {x : Went} {u : List (List Float)} (few : k ≤ 16) (r : Reached b n z k 16 c v x u) where
  pub ran_refused : {i j : ℕ} → x.fate ≡ Err (refusal i j) → Ran b n z k c v x u
  ran_refused e = record { whole = λ from h. ends_whole b n z from h few r u (λ g. never (sym e ∙ g)); below = r.below; size = r.size }

  -- with the last node in a row
  pub ran_going : (row : List Float) {tau : List Float} → tau ≡ torque_in (row_at u 15) → node_from row ≡ node_of b.frame.dt 16 x.at.s tau → Ran b n z k c v x (set u 16 row)
  ran_going row t e = record {
    whole = λ from h. ends_whole b n z from h few r (set u 16 row) (lasts_set b.frame.dt x u row (omega (arith, r.size, stands_long b n z from c v h)) t e);
    below = below_set k v u 16 row few r.below;
    size = length-set u 16 row ∙ r.size;
  }

-- of a problem and a decision
abbrev pub RanUnder : WheelLaw → CheckedProblem → List Float → ℕ → Partway → List (List Float) → Went → List (List Float) → Type 0
RanUnder law p z k c v x u = Ran (body_under law p (step_time z)) (control_dim p.map) z k c v x u
