-- A run with nodes: by induction over its steps, every state, node and row of controls is as the promises need it. Assumes nothing.
use Rattle.std.specs.Prelude.{◌≡◌, get_or, set, length, take, drop, replicate, pos, Ok, Err}
use Rattle.std.proofs.Math.Path.{refl, sym, ap}
use Rattle.std.proofs.Common.{◌∙◌, get_or-set_same, get_or-set_other, get_or-drop}
use mathlib.Core.List.{List, [], ◌∷◌}
use Prim.Native.Nat.{ℕ, zero, suc, ◌+◌, ◌-◌, ◌*◌, ◌<◌, ◌≤◌}
use native.Mathlib.Omega.{arith}
use Rattle.std.proofs.Math.Dec.{T}
use Rattle.std.proofs.Math.ListN.{length-set, length-replicate}
use Rattle.std.specs.Float.Ieee.{Float, binary64, mul, fits, of_int, of_bits}
use Rattle.std.specs.Float.{nan}
use Rattle.std.specs.Float.Ieee.Fits.{add-fits, nan-fits}
use Rattle.std.specs.Float.Ieee.Scale.{finite}
use Rattle.common.specs.Floats as Floats
use Rattle.common.specs.Iter.{iter}
use Rattle.common.specs.Lists.{at, slice}
use Rattle.float_laws.specs.Below.{below_none, below_next}
use Rattle.float_laws.specs.Order.{held}
use Rattle.float_laws.specs.Finite.{finite_number, add_number, mul_number}
use Rattle.float_laws.specs.Unit.{Below1}
use Rattle.geom.specs.Vec as Vec
use Rattle.geom.specs.Quats.{quat_mul}
use Rattle.geom.specs.declared.Quat.{Quat}
use Rattle.actuators.specs.Maps.{gimbals}
use Rattle.control_rows.specs.Parts.{width}
use Rattle.forward.specs.Decisions.{row_of}
use Rattle.control_rows.specs.Parts as Parts
use Rattle.forward.specs.Steps.{wheel_momenta_value, body_momentum, rate_dot, rate_next, step}
use Rattle.forward.specs.declared.Body.{Body}
use Rattle.forward.specs.Runs.{start, node_of, blank_node, no_node, node_at, Rollout, advance, rollout_by, rollout_turn, start_rollout, rollout, ended_run, end_by_value, end_of, run_from}
use Rattle.forward.specs.declared.BodyState.{BodyState}
use Rattle.forward.specs.declared.Stepped.{Stepped}
use Rattle.forward.specs.declared.Node.{Node}
use Rattle.forward.specs.declared.Run.{Run}
use Rattle.run_laws.specs.Values.{goes, Fine3, Fit3, FineN, FitN, HeldN, WithinQ}
use Rattle.run_laws.specs.Attitudes.{normed_in, product_fits}
use Rattle.run_laws.specs.Torques.{at_slice, axes_back, row_back, row_fits, wheel_control, momenta_length, momenta_at_law, momenta_after_law}
use Rattle.run_laws.specs.Steps.{Once, step_goes}
use Rattle.run_laws.specs.Defects.{grounded, max_grounded}
use Rattle.common.specs.Refusals.{Fate}

-- past n wheels stands +0
abbrev pub Spare : ℕ → List Float → Type 0
Spare n hw = (i : ℕ) → n ≤ i → i < 8 → at hw i ≡ Floats.plus_zero

-- A state on the way: a finite attitude of at most 2 ^ 56, finite rates, momenta that are no NaN; where the body's momentum is finite, so are the wheels'.
pub record StateOk (b : Body) (s : BodyState) : Type 0 where
  pub q : WithinQ 56 s.q
  pub w : Fine3 s.w
  pub w_fits : Fit3 s.w
  pub long : b.rig.wheel_count ≤ length s.hw
  pub hw : HeldN b.rig.wheel_count s.hw
  pub tie : T (finite (at s.h 0)) → FineN b.rig.wheel_count s.hw
  pub spare : Spare b.rig.wheel_count s.hw

-- A node: a finite attitude of at most 2 ^ 56, finite rates and torques, the momenta of nw wheels no NaN.
pub record NodeOk (nw : ℕ) (n : Node) : Type 0 where
  pub q : WithinQ 56 n.q
  pub w : Fine3 n.w
  pub w_fits : Fit3 n.w
  pub tau : Fine3 n.tau
  pub tau_fits : Fit3 n.tau
  pub hw : HeldN nw n.hw
  pub spare : Spare nw n.hw

-- the time of node k, k steps of dt
abbrev pub time_of : Float → ℕ → Float
time_of dt k = mul binary64 (of_int binary64 (pos k)) dt

zero_fits : T (fits binary64 Floats.plus_zero)
unfolding fits of_bits
zero_fits = tt

zero_finite : T (finite Floats.plus_zero)
unfolding of_bits
zero_finite = tt

zero_grounded : T (grounded Floats.plus_zero)
unfolding of_bits
zero_grounded = tt

-- momenta of nw wheels that a run may begin with
pub record MomentaOk (nw : ℕ) (hw : List Float) : Type 0 where
  pub long : nw ≤ length hw
  pub held : HeldN nw hw
  pub fine : FineN nw hw
  pub spare : Spare nw hw

-- the start of a run, whatever body momentum its wheels make
pub start_ok : (b : Body) (axes : List Float) (n : ℕ) (q0 : Quat) (hw : List Float) → WithinQ 56 q0 → MomentaOk b.rig.wheel_count hw → StateOk b (start axes n q0 hw)
unfolding start
start_ok b axes n q0 hw Q M = record {
  q = Q;
  w = (zero_finite, zero_finite, zero_finite);
  w_fits = (zero_fits, zero_fits, zero_fits);
  long = M.long;
  hw = M.held;
  tie = λ t. M.fine;
  spare = M.spare;
}

-- ---- one step
module _ (b : Body) (u : List Float) (s : BodyState) (g : Stepped) (B : Below1 b.frame.tolerance) (S : StateOk b s) (O : Once b u s g) where
  abbrev nw : ℕ
  nw = b.rig.wheel_count

  -- each control of its row is finite
  pub row_fine : FineN (width b.rig (gimbals b.rig.cmgs)) u
  row_fine = row_back b.rig b.wheels b.thrusters u s.w s.h O.a (rw (← O.is_tau) O.tau)

  momenta_held : HeldN nw (wheel_momenta_value b u s)
  unfolding wheel_momenta_value
  momenta_held i h =
      let e = momenta_at_law nw s.hw (slice 0 nw u) b.frame.dt S.long i h in
      let f : at (slice 0 nw u) i ≡ at u i = at_slice 0 nw u i (omega arith) ∙ ap (λ (k : ℕ). at u k) (omega arith) in
      let c : T (finite (at (slice 0 nw u) i)) = rw f (row_fine i (wheel_control b.rig (gimbals b.rig.cmgs) i h)) in
      rw e (held (add-fits binary64 _ _) (add_number binary64 (at s.hw i) (mul binary64 (at (slice 0 nw u) i) b.frame.dt) (S.tie O.h.0 i h) (mul_number binary64 (at (slice 0 nw u) i) b.frame.dt c O.dt)))

  momenta_long : nw ≤ length (wheel_momenta_value b u s)
  unfolding wheel_momenta_value
  momenta_long = rw (momenta_length nw s.hw (slice 0 nw u) b.frame.dt) S.long

  momenta_spare : Spare nw (wheel_momenta_value b u s)
  unfolding wheel_momenta_value
  momenta_spare i h k = momenta_after_law nw s.hw (slice 0 nw u) b.frame.dt i h ∙ S.spare i h k

  tied : (hw : List Float) → T (finite (at (body_momentum b hw) 0)) → FineN nw hw
  unfolding body_momentum Parts.body_momentum
  tied hw t = axes_back b.wheels hw Vec.zero3 nw t

  rate_fits_law : (wd : List Float) → Fit3 (rate_next s.w wd b.frame.dt)
  unfolding rate_next
  rate_fits_law wd = (add-fits binary64 _ _, add-fits binary64 _ _, add-fits binary64 _ _)

  pub next_ok : StateOk b g.s
  next_ok = rw O.is_s (record {
    q = normed_in b.frame.tolerance (quat_mul s.q O.e) g.s.q B (product_fits s.q O.e) O.attitude;
    w = O.w2;
    w_fits = rw O.is_w2 (rate_fits_law (rate_dot b.frame.j b.frame.jinv s.w s.h g.tau));
    long = momenta_long;
    hw = momenta_held;
    tie = tied (wheel_momenta_value b u s);
    spare = momenta_spare;
  })

  pub node_ok : (k : ℕ) → FitN (width b.rig (gimbals b.rig.cmgs)) u → NodeOk nw (node_of b.frame.dt k s g.tau)
  unfolding node_of
  node_ok k f = record {
    q = S.q;
    w = S.w;
    w_fits = S.w_fits;
    tau = O.tau;
    tau_fits = rw O.is_tau (row_fits b.rig b.wheels b.thrusters u s.w s.h O.a f);
    hw = S.hw;
    spare = S.spare;
  }

-- ---- a row of a decision that f64 holds
pub take_fits : (l : List Float) (n : ℕ) → ((i : ℕ) → T (fits binary64 (at l i))) → (i : ℕ) → T (fits binary64 (at (take n l) i))
take_fits l zero F i = nan-fits binary64
take_fits [] (suc n) F i = nan-fits binary64
take_fits (x ∷ l) (suc n) F zero = F 0
take_fits (x ∷ l) (suc n) F (suc i) = take_fits l n (λ j. F (suc j)) i

pub slice_fits : (a e : ℕ) (z : List Float) → ((i : ℕ) → T (fits binary64 (at z i))) → (i : ℕ) → T (fits binary64 (at (slice a e z) i))
slice_fits a e z F i = take_fits (drop a z) (e - a) (λ j. rw (get_or-drop a z j nan) (F (a + j))) i

-- ---- the run, with n controls a row, from a state that is in order
module _ (b : Body) (n : ℕ) (z : List Float) (from : BodyState) (B : Below1 b.frame.tolerance) (F : (i : ℕ) → T (fits binary64 (at z i))) (S : StateOk b from) where
  abbrev wheels : ℕ
  wheels = b.rig.wheel_count

  abbrev c : ℕ
  c = width b.rig (gimbals b.rig.cmgs)

  -- after k steps that went on
  pub record Kept (k : ℕ) (x : Rollout) : Type 0 where
    pub state : StateOk b x.s
    pub nodes : (i : ℕ) → i < k → NodeOk wheels (node_at x.nodes i)
    pub times : (i : ℕ) → i < k → (node_at x.nodes i).t ≡ time_of b.frame.dt i
    pub stored : (i : ℕ) → i < k → Fine3 (node_at x.nodes i).h
    pub time : 0 < k → T (finite b.frame.dt)
    pub rows : (i : ℕ) → i < k → FineN c (row_of n z i)
    pub defect : T (grounded x.defect)
    pub long : length x.nodes ≡ 17
    pub begins : k ≡ 0 → x.s ≡ from
    pub first : 0 < k → node_at x.nodes 0 ≡ node_of b.frame.dt 0 from (node_at x.nodes 0).tau

  one_more : (k : ℕ) (x : Rollout) → k < 17 → Kept k x → T (goes (step b (row_of n z k) k x.s).fate) → Kept (suc k) (advance b.frame.dt k x (step b (row_of n z k) k x.s))
  unfolding advance
  one_more k x l K t = record {
    state = next_ok b u x.s g B K.state O;
    nodes = below_next (λ i. NodeOk wheels (node_at ns i)) k (rw same (node_ok b u x.s g B K.state O k (λ i h. slice_fits (1 + k * n) (1 + k * n + n) z F i))) (λ i h. rw (other i (λ (e : i ≡ k). omega arith)) (K.nodes i h));
    times = below_next (λ i. (node_at ns i).t ≡ time_of b.frame.dt i) k (ap (λ (y : Node). y.t) same ∙ (unfold node_of in refl)) (λ i h. rw (other i (λ (e : i ≡ k). omega arith)) (K.times i h));
    stored = below_next (λ i. Fine3 (node_at ns i).h) k (rw same (unfold node_of in O.h)) (λ i h. rw (other i (λ (e : i ≡ k). omega arith)) (K.stored i h));
    time = λ h. O.dt;
    rows = below_next (λ i. FineN c (row_of n z i)) k (row_fine b u x.s g B K.state O) K.rows;
    defect = max_grounded x.defect g.defect K.defect;
    long = length-set x.nodes k node ∙ K.long;
    begins = λ e. absurd (never e);
    first = λ h. at_first k refl;
  }
    where
      u : List Float
      u = row_of n z k

      g : Stepped
      g = step b u k x.s

      O : Once b u x.s g
      O = step_goes b u k x.s t

      node : Node
      node = node_of b.frame.dt k x.s g.tau

      ns : List Node
      ns = set x.nodes k node

      same : node_at ns k ≡ node
      same = get_or-set_same x.nodes k node no_node (rw K.long l)

      other : (i : ℕ) → (i ≡ k → ⊥) → node_at ns i ≡ node_at x.nodes i
      other i h = get_or-set_other x.nodes k i node no_node h

      never : suc k ≡ 0 → ⊥
      never e = omega arith

      made : (s : BodyState) → s ≡ from → node_at ns 0 ≡ node_of b.frame.dt 0 s g.tau → node_at ns 0 ≡ node_of b.frame.dt 0 from (node_at ns 0).tau
      made s e h = let t0 : (node_at ns 0).tau ≡ g.tau = ap (λ (y : Node). y.tau) h ∙ (unfold node_of in refl) in rw t0 (h ∙ ap (λ (y : BodyState). node_of b.frame.dt 0 y g.tau) e)

      at_first : (j : ℕ) → j ≡ k → node_at ns 0 ≡ node_of b.frame.dt 0 from (node_at ns 0).tau
      at_first zero e = made x.s (K.begins (sym e)) (ap (λ (i : ℕ). node_at ns i) e ∙ same ∙ ap (λ (i : ℕ). node_of b.frame.dt i x.s g.tau) (sym e))
      at_first (suc j) e = let o = other 0 (λ (p : 0 ≡ k). omega arith) in rw o (K.first (omega arith))

  turn_keeps : (k : ℕ) (x : Rollout) → k < 17 → (T (goes x.fate) → Kept k x) → T (goes (rollout_turn b n z k x).fate) → Kept (suc k) (rollout_turn b n z k x)
  unfolding rollout_turn
  turn_keeps k x l K t = go x.fate refl t
    where
      went : T (goes (advance b.frame.dt k x (step b (row_of n z k) k x.s)).fate) → T (goes (step b (row_of n z k) k x.s).fate)
      went t = unfold advance in t

      go : (e : Fate) → x.fate ≡ e → T (goes (rollout_by e b n z k x).fate) → Kept (suc k) (rollout_by e b n z k x)
      go (Ok _) p t = one_more k x l (K (rw p tt)) (went t)
      go (Err why) p t = absurd (rw p at t)

  pub keeps : (k : ℕ) → k ≤ 17 → T (goes (iter (rollout_turn b n z) (start_rollout from) k).fate) → Kept k (iter (rollout_turn b n z) (start_rollout from) k)
  unfolding iter
  keeps zero l t = record {
    state = S;
    nodes = below_none (λ i. NodeOk wheels (node_at (replicate 17 blank_node) i));
    times = below_none (λ i. (node_at (replicate 17 blank_node) i).t ≡ time_of b.frame.dt i);
    stored = below_none (λ i. Fine3 (node_at (replicate 17 blank_node) i).h);
    time = λ h. absurd (none h);
    rows = below_none (λ i. FineN c (row_of n z i));
    defect = zero_grounded;
    long = length-replicate 17 blank_node;
    begins = λ e. refl;
    first = λ h. absurd (none h);
  }
    where
      none : 0 < 0 → ⊥
      none h = omega arith
  keeps (suc k) l t = turn_keeps k (iter (rollout_turn b n z) (start_rollout from) k) l (λ t. keeps k (omega arith) t) t

  -- what a run with nodes is
  pub record Flown (r : Run) : Type 0 where
    pub nodes : (i : ℕ) → i < 17 → NodeOk wheels (node_at r.nodes i)
    pub rows : (i : ℕ) → i < 16 → FineN c (row_of n z i)
    -- node i stands at i steps of a finite time
    pub time : T (finite b.frame.dt)
    pub times : (i : ℕ) → i < 17 → (node_at r.nodes i).t ≡ time_of b.frame.dt i
    -- the momentum stored at every node that a step begins from
    pub stored : (i : ℕ) → i < 16 → Fine3 (node_at r.nodes i).h
    pub defect : T (grounded r.defect)
    -- node 16 repeats node 15's torque
    pub repeats : (node_at r.nodes 16).tau ≡ (node_at r.nodes 15).tau
    -- node 0 is the start
    pub first : node_at r.nodes 0 ≡ node_of b.frame.dt 0 from (node_at r.nodes 0).tau

  pub ended_run_ok : (x : Rollout) → Kept 16 x → Flown (ended_run b x)
  unfolding node_of
  ended_run_ok x K = record {
    nodes = below_next (λ i. NodeOk wheels (node_at ns i)) 16 (rw same ok) (λ i h. rw (other i (λ (e : i ≡ 16). omega arith)) (K.nodes i h));
    rows = K.rows;
    time = K.time (omega arith);
    defect = K.defect;
    times = below_next (λ i. (node_at ns i).t ≡ time_of b.frame.dt i) 16 (ap (λ (y : Node). y.t) same) (λ i h. rw (other i (λ (e : i ≡ 16). omega arith)) (K.times i h));
    stored = λ i h. rw (other i (λ (e : i ≡ 16). omega arith)) (K.stored i h);
    repeats = ap (λ (y : Node). y.tau) same ∙ sym (ap (λ (y : Node). y.tau) (other 15 (λ (e : 15 ≡ 16). omega arith)));
    first = rw (other 0 (λ (e : 0 ≡ 16). omega arith)) (K.first (omega arith));
  }
    where
      node : Node
      node = node_of b.frame.dt 16 x.s (node_at x.nodes 15).tau

      ns : List Node
      ns = set x.nodes 16 node

      same : node_at ns 16 ≡ node
      same = get_or-set_same x.nodes 16 node no_node (rw K.long (omega arith))

      other : (i : ℕ) → (i ≡ 16 → ⊥) → node_at ns i ≡ node_at x.nodes i
      other i h = get_or-set_other x.nodes 16 i node no_node h

      fifteen : NodeOk wheels (node_at x.nodes 15)
      fifteen = K.nodes 15 (omega arith)

      ok : NodeOk wheels node
      ok = record { q = K.state.q; w = K.state.w; w_fits = K.state.w_fits; tau = fifteen.tau; tau_fits = fifteen.tau_fits; hw = K.state.hw; spare = K.state.spare }
