-- Where the body momentum is zero at each step that is begun: in every run of a body without wheels, and in a run whose nodes 0 to 15 say so. Assumes nothing.
use Prim.Native.Nat.{ℕ, zero, suc, ◌≤◌, ◌<◌}
use Rattle.std.specs.Prelude.{◌≡◌, get_or, set, length, Float, Ok, Err}
use Rattle.std.proofs.Math.Path.{refl}
use Rattle.std.proofs.Common.{ap, ◌∙◌, arith, length-set, get_or-set_same, get_or-set_other}
use mathlib.Core.List.{List}
use Rattle.std.proofs.Math.Dec.{T}
use Rattle.std.proofs.Math.ListN.{length-replicate}
use Rattle.std.specs.Float.Ieee.{of_bits}
use Rattle.common.specs.Iter.{iter}
use Rattle.float_laws.specs.Below.{below_none, below_next}
use Rattle.geom.specs.Vec as Vec
use Rattle.actuators.specs.Maps.{control_dim}
use Rattle.control_rows.specs.Parts as Parts
use Rattle.problem.specs.declared.Problem.{Problem}
use Rattle.forward.specs.Decisions.{row_of, step_time}
use Rattle.forward.specs.Steps.{body_momentum, wheel_momenta_value, step}
use Rattle.forward.specs.declared.Body.{Body}
use Rattle.forward.specs.Runs.{Rollout, start, start_of, start_rollout, blank_node, no_node, node_at, node_of, advance, rollout_by, rollout_turn, rollout, end_by_value, end_of, run_from, body_of, run_under}
use Rattle.forward.specs.Reconstruct as Reconstruct
use Rattle.forward.specs.Reconstruct.{admit, reconstruct_under}
use Rattle.forward.specs.declared.BodyState.{BodyState}
use Rattle.forward.specs.declared.Node.{Node}
use Rattle.run_laws.specs.Values.{goes}
use Rattle.run_laws.specs.Steps.{Once, step_goes}
use Rattle.published_law.specs.Published as Published
use Rattle.published_law.specs.Published.{Still, rollout_at, Unladen}
use Rattle.published_law.proofs.Agreement.{reconstruct_agrees}
use Rattle.common.specs.Refusals.{Fate}

zero_still : Still Vec.zero3
unfolding of_bits
zero_still = (tt, tt, tt)

-- no wheels store no momentum
none_still : (axes : List Float) (n : ℕ) (hw : List Float) → n ≡ 0 → Still (Parts.body_momentum axes n hw)
unfolding Parts.body_momentum iter
none_still axes n hw e = rw e zero_still

-- ---- a property of every state that a step ends in holds at the start of every later step
module _ (b : Body) (n : ℕ) (z : List Float) (from : BodyState) where
  turn_still : (k : ℕ) (x : Rollout) → ((s : BodyState) → T (goes (step b (row_of n z k) k s).fate) → Still (step b (row_of n z k) k s).s.h) → T (goes (rollout_turn b n z k x).fate) → Still (rollout_turn b n z k x).s.h
  unfolding rollout_turn advance
  turn_still k x h t = go x.fate refl t
    where
      go : (f : Fate) → x.fate ≡ f → T (goes (rollout_by f b n z k x).fate) → Still (rollout_by f b n z k x).s.h
      go (Ok _) e t = h x.s t
      go (Err why) e t = absurd (rw e at t)

  -- NO WHEELS: a body without wheels stores none
  pub wheelless_unladen : b.rig.wheel_count ≡ 0 → Still from.h → Unladen b n z from
  unfolding iter
  wheelless_unladen e S zero l t = S
  wheelless_unladen e S (suc k) l t = turn_still k (rollout_at b n z from k) (λ s g. still s (step_goes b (row_of n z k) k s g)) t
    where
      none : (hw : List Float) → Still (body_momentum b hw)
      none hw = unfold body_momentum in none_still b.wheels b.rig.wheel_count hw e

      still : (s : BodyState) → Once b (row_of n z k) s (step b (row_of n z k) k s) → Still (step b (row_of n z k) k s).s.h
      still s O = rw O.is_s (none (wheel_momenta_value b (row_of n z k) s))

  -- ---- a run with nodes: node k has the body momentum at the start of step k
  record Noted (k : ℕ) (x : Rollout) : Type 0 where
    long : length x.nodes ≡ 17
    notes : (i : ℕ) → i < k → (node_at x.nodes i).h ≡ (rollout_at b n z from i).s.h

  turn_noted : (k : ℕ) → k < 17 → (T (goes (rollout_at b n z from k).fate) → Noted k (rollout_at b n z from k)) → T (goes (rollout_turn b n z k (rollout_at b n z from k)).fate) → Noted (suc k) (rollout_turn b n z k (rollout_at b n z from k))
  unfolding rollout_turn advance
  turn_noted k l N t = go x.fate refl t
    where
      x : Rollout
      x = rollout_at b n z from k

      node : List Float → Node
      node tau = node_of b.frame.dt k x.s tau

      momentum : (tau : List Float) → (node tau).h ≡ x.s.h
      momentum tau = unfold node_of in refl

      go : (f : Fate) → x.fate ≡ f → T (goes (rollout_by f b n z k x).fate) → Noted (suc k) (rollout_by f b n z k x)
      go (Err why) e t = absurd (rw e at t)
      go (Ok _) e t =
          let M = N (rw e tt) in
          let tau = (step b (row_of n z k) k x.s).tau in
          record {
            long = length-set x.nodes k (node tau) ∙ M.long;
            notes = below_next (λ i. (node_at (set x.nodes k (node tau)) i).h ≡ (rollout_at b n z from i).s.h) k
                (ap (λ (y : Node). y.h) (get_or-set_same x.nodes k (node tau) no_node (rw M.long l)) ∙ momentum tau)
                (λ i h. ap (λ (y : Node). y.h) (get_or-set_other x.nodes k i (node tau) no_node (λ (e : i ≡ k). omega arith)) ∙ M.notes i h);
          }

  noted : (k : ℕ) → k ≤ 17 → T (goes (rollout_at b n z from k).fate) → Noted k (rollout_at b n z from k)
  unfolding iter
  noted zero l t = record { long = length-replicate 17 blank_node; notes = below_none (λ i. (node_at (start_rollout from).nodes i).h ≡ (rollout_at b n z from i).s.h) }
  noted (suc k) l t = turn_noted k l (λ t. noted k (omega arith) t) t

  -- NODES: a run whose nodes 0 to 15 have no body momentum
  pub nodes_unladen : T (goes (run_from b n z from).fate) → ((k : ℕ) → k < 16 → Still (node_at (run_from b n z from).nodes k).h) → Unladen b n z from
  unfolding run_from end_of rollout
  nodes_unladen t S = go (rollout_at b n z from 16).fate refl t S
    where
      c : Rollout
      c = rollout_at b n z from 16

      go : (f : Fate) → c.fate ≡ f → T (goes (end_by_value f b c).fate) → ((k : ℕ) → k < 16 → Still (node_at (end_by_value f b c).nodes k).h) → Unladen b n z from
      go (Err why) e t S = absurd t
      go (Ok _) e t S = λ k l g.
          let same = ap (λ (y : Node). y.h) (get_or-set_other c.nodes 16 k (node_of b.frame.dt 16 c.s (node_at c.nodes 15).tau) no_node (λ (e : k ≡ 16). omega arith)) in
          rw (same ∙ (noted 16 (omega arith) (rw e tt)).notes k l) at (S k l)

-- as a user sees it: a path whose nodes 0 to 15 have no body momentum is the published law's path too
pub reconstruct_nodes_agree : (p : Problem) (z : List Float) → T (goes (Reconstruct.reconstruct p z).run.fate)
    → ((k : ℕ) → k < 16 → Still (get_or (Reconstruct.reconstruct p z).run.nodes k no_node).h) → Published.reconstruct p z ≡ Reconstruct.reconstruct p z
unfolding reconstruct_under run_under
reconstruct_nodes_agree p z t S = reconstruct_agrees p z (λ e. nodes_unladen (body_of (admit p).problem (step_time z)) (control_dim (admit p).problem.map) z (start_of (admit p).problem) (rw e at t) (rw e at S))

-- and so is every run of a problem without wheels, also a refused one
pub reconstruct_wheelless_agrees : (p : Problem) (z : List Float) → (admit p).problem.map.wheel_count ≡ 0 → Published.reconstruct p z ≡ Reconstruct.reconstruct p z
reconstruct_wheelless_agrees p z w = reconstruct_agrees p z (λ e. wheelless_unladen (body_of (admit p).problem (step_time z)) (control_dim (admit p).problem.map) z (start_of (admit p).problem) w (unfold start in none_still (admit p).problem.map.wheel_axes (admit p).problem.map.wheel_count (admit p).problem.momenta w))
