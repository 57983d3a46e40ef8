-- The nodes of a run: node k stands at k steps of its time, and f64 holds its rate, whatever the problem's and the decision's numbers are. Assumes nothing.
use Rattle.std.specs.Prelude.{◌≡◌, List, length, set, replicate, Float, Ok, Err}
use Rattle.std.proofs.Math.Path.{refl, subst}
use Rattle.std.proofs.Common.{sym, ◌∙◌, arith, get_or-set_same, get_or-set_other}
use Prim.Native.Nat.{ℕ, zero, suc, ◌<◌, ◌≤◌}
use Rattle.std.proofs.Math.Dec.{T}
use Rattle.std.proofs.Math.ListN.{length-set, length-replicate}
use Rattle.std.specs.Float.{binary64}
use Rattle.std.specs.Float.Ieee.{fits, of_bits}
use Rattle.std.specs.Float.Ieee.Fits.{add-fits}
use Rattle.common.specs.Iter.{iter}
use Rattle.float_laws.specs.Below.{below_none, below_next}
use Rattle.control_rows.specs.declared.WheelLaw.TheVariants.{Once}
use Rattle.problem.specs.declared.Problem.{Problem}
use Rattle.problem.specs.declared.CheckedProblem.{CheckedProblem}
use Rattle.forward.specs.Decisions.{row_of, step_time}
use Rattle.forward.specs.Reconstruct.{admit, reconstruct_by, reconstruct_under, reconstruct}
use Rattle.forward.specs.Runs.{start, start_of, node_of, no_node, blank_node, Rollout, advance, rollout_by, rollout_turn, start_rollout, rollout, end_by_value, end_of, run_from, run_under}
use Rattle.forward.specs.Steps.{rate_next, step}
use Rattle.forward.specs.declared.Body.{Body}
use Rattle.forward.specs.declared.Node.{Node}
use Rattle.forward.specs.declared.BodyState.{BodyState}
use Rattle.forward.specs.Runs.{node_at}
use Rattle.run_laws.specs.Runs.{time_of}
use Rattle.run_laws.specs.Steps.{step_goes}
use Rattle.run_laws.specs.Values.{goes, Fit3}
use Rattle.common.specs.Refusals.{Fate}

-- node k of a run of steps of the time dt
pub record RunNode (dt : Float) (k : ℕ) (n : Node) : Type 0 where
  pub t : n.t ≡ time_of dt k
  pub w : Fit3 n.w

run_node_law : (dt : Float) (k : ℕ) (s : BodyState) (tau : List Float) → Fit3 s.w → RunNode dt k (node_of dt k s tau)
unfolding node_of
run_node_law dt k s tau f = record { t = refl; w = f }

rate_fits_law : (w wd : List Float) (dt : Float) → Fit3 (rate_next w wd dt)
unfolding rate_next
rate_fits_law w wd dt = (add-fits binary64 _ _, add-fits binary64 _ _, add-fits binary64 _ _)

-- the first k nodes of a list, and one more
abbrev Nodes : Float → ℕ → List Node → Type 0
Nodes dt k ns = (i : ℕ) → i < k → RunNode dt i (node_at ns i)

put : (dt : Float) (k : ℕ) (ns : List Node) (n : Node) → k < 17 → length ns ≡ 17 → RunNode dt k n → Nodes dt k ns → Nodes dt (suc k) (set ns k n)
put dt k ns n l e h f =
    below_next (λ i. RunNode dt i (node_at (set ns k n) i)) k
    (rw (get_or-set_same ns k n no_node (rw e l)) h)
    (λ i g. rw (get_or-set_other ns k i n no_node (λ (q : i ≡ k). omega arith)) (f i g))

-- ---- a run with n controls a row, from a state whose rate f64 holds
module _ (b : Body) (n : ℕ) (z : List Float) (from : BodyState) (F : Fit3 from.w) where
  abbrev dt : Float
  dt = b.frame.dt

  -- after k steps that went on
  record Kept (k : ℕ) (x : Rollout) : Type 0 where
    pub rate : Fit3 x.s.w
    pub nodes : Nodes dt k x.nodes
    pub long : length x.nodes ≡ 17

  one_more : (k : ℕ) (x : Rollout) → k < 17 → Kept k x → T (goes (step b (row_of n z k) k x.s).fate) → Kept (suc k) (advance dt k x (step b (row_of n z k) k x.s))
  unfolding advance
  one_more k x l K t = record {
    rate = subst Fit3 (sym (step_goes b (row_of n z k) k x.s t).is_w2) (rate_fits_law x.s.w _ dt);
    nodes = put dt k x.nodes _ l K.long (run_node_law dt k x.s _ K.rate) K.nodes;
    long = length-set x.nodes k _ ∙ K.long;
  }

  turn : (k : ℕ) (x : Rollout) → k < 17 → (T (goes x.fate) → Kept k x) → T (goes (rollout_turn b n z k x).fate) → Kept (suc k) (rollout_turn b n z k x)
  unfolding rollout_turn
  turn k x l K t = go x.fate refl t
    where
      went : T (goes (advance dt k x (step b (row_of n z k) k x.s)).fate) → T (goes (step b (row_of n z k) k x.s).fate)
      went t = unfold advance in t

      go : (e : Fate) → x.fate ≡ e → T (goes (rollout_by e b n z k x).fate) → Kept (suc k) (rollout_by e b n z k x)
      go (Ok _) p t = one_more k x l (K (rw p tt)) (went t)
      go (Err why) p t = absurd (rw p at t)

  turns : (k : ℕ) → k ≤ 17 → T (goes (iter (rollout_turn b n z) (start_rollout from) k).fate) → Kept k (iter (rollout_turn b n z) (start_rollout from) k)
  unfolding iter
  turns zero l t = record { rate = F; nodes = below_none (λ i. RunNode dt i (node_at (replicate 17 blank_node) i)); long = length-replicate 17 blank_node }
  turns (suc k) l t = turn k (iter (rollout_turn b n z) (start_rollout from) k) l (λ t. turns k (omega arith) t) t

  run_nodes : T (goes (run_from b n z from).fate) → Nodes dt 17 (run_from b n z from).nodes
  unfolding run_from end_of
  run_nodes t = go (rollout b n z from).fate refl t
    where
      kept : T (goes (rollout b n z from).fate) → Kept 16 (rollout b n z from)
      kept t = unfold rollout in turns 16 (omega arith) t

      go : (e : Fate) → (rollout b n z from).fate ≡ e → T (goes (end_by_value e b (rollout b n z from)).fate) → Nodes dt 17 (end_by_value e b (rollout b n z from)).nodes
      go (Ok _) p t = let K = kept (rw p tt) in put dt 16 (rollout b n z from).nodes _ (omega arith) K.long (run_node_law dt 16 (rollout b n z from).s _ K.rate) K.nodes
      go (Err why) p t = absurd t

-- a run begins at rest
start_fits : (p : CheckedProblem) → Fit3 (start_of p).w
unfolding start fits of_bits
start_fits p = (tt, tt, tt)

-- RECONSTRUCT: its nodes, where it gives some
pub reconstruct_nodes : (p : Problem) (z : List Float) → T (goes (reconstruct p z).run.fate) → (k : ℕ) → k < 17 → RunNode (step_time z) k (node_at (reconstruct p z).run.nodes k)
unfolding reconstruct_under run_under
reconstruct_nodes p z t = go (admit p).fate (admit p).problem t
  where
    go : (e : Fate) (c : CheckedProblem) → T (goes (reconstruct_by e Once c z).run.fate) → Nodes (step_time z) 17 (reconstruct_by e Once c z).run.nodes
    go (Ok _) c t = run_nodes _ _ z (start_of c) (start_fits c) t
    go (Err why) c t = absurd t
