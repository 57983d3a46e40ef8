-- The walk to a time goes on from any node that it passes; to a later time it passes what an earlier one's did. Assumes nothing.
use Prim.Native.Nat.{ℕ, zero, suc, ◌+◌, ◌<◌, ◌≤◌}
use Rattle.std.specs.Prelude.{◌≡◌, Bool, ◌⊎◌, List, T, Float}
use Rattle.std.proofs.Math.Path.{refl, ap}
use Rattle.std.proofs.Common.{sym, ◌∙◌, true≢false, add-one}
use Rattle.std.proofs.Math.Bool.{true, false, cond}
use Rattle.std.proofs.Math.Logic.{inl, inr}
use native.Mathlib.Omega.{arith}
use Rattle.std.specs.Float.{binary64}
use Rattle.std.specs.Float.Ieee.{lt, le, fits}
use Rattle.std.specs.Float.Ieee.Bits.{is_true}
use Rattle.float_laws.specs.Below.{below_next, below_none}
use Rattle.float_laws.specs.Order.{lt_le_trans}
use Rattle.common.specs.Iter.{iter}
use Rattle.common.specs.IterLaws.{iter_none, iter_next, iter_stays}
use Rattle.samples.specs.Samples.{time, onward, earlier}
use Rattle.sample_lists.specs.StagesInner.{walk, Passed}

pub passed_none : (nodes : List (List Float)) (t : Float) → Passed nodes t 0
passed_none nodes t = below_none (λ k. T (fits binary64 (time nodes (k + 1))) × T (lt (time nodes (k + 1)) t))

-- one node more
pub passed_next : (nodes : List (List Float)) (t : Float) (i : ℕ) {x : Float} → Passed nodes t i → x ≡ time nodes (i + 1) → fits binary64 x ≡ true → lt x t ≡ true → Passed nodes t (i + 1)
passed_next nodes t i p e f h = rw (add-one i) (below_next (λ k. T (fits binary64 (time nodes (k + 1))) × T (lt (time nodes (k + 1)) t)) i (rw (← e, f) tt, rw (← e, h) tt) p)

-- a later time
pub passed_later : (nodes : List (List Float)) (t u : Float) (i : ℕ) → fits binary64 t ≡ true → fits binary64 u ≡ true → le t u ≡ true → Passed nodes t i → Passed nodes u i
passed_later nodes t u i f g h p k b = ((p k b).0, lt_le_trans binary64 (time nodes (k + 1)) t u (p k b).0 (rw f tt) (rw g tt) (p k b).1 (rw h tt))

module _ (nodes : List (List Float)) (t : Float) where
  -- the walk stands at node i after i steps
  pub stands : (i : ℕ) → Passed nodes t i → i ≡ iter (onward nodes t) 0 i
  stands zero p = iter_none (onward nodes t) 0
  stands (suc i) p =
      rw (add-one i) at
      (iter_next (onward nodes t) 0 i {r = i + 1} (stands i (λ k b. p k (omega (arith, b)))) (rw (is_true (lt (time nodes (i + 1)) t) (p i (omega arith)).1) refl))

  module _ (i : ℕ) (p : Passed nodes t i) where
    pub walk_stops : {x : Float} → x ≡ time nodes (i + 1) → lt x t ≡ false → i ≤ 15 → i ≡ walk nodes t
    unfolding walk
    walk_stops e h l = iter_stays (onward nodes t) 0 i 15 l (stands i p) (λ j. rw (← e, h))

    pub walk_ends : i ≡ 15 → i ≡ walk nodes t
    unfolding walk
    walk_ends e = stands i p ∙ ap (λ (k : ℕ). iter (onward nodes t) 0 k) e

  -- after k steps the walk stands at node k, or has stopped
  past : (k : ℕ) → (iter (onward nodes t) 0 k ≡ k) ⊎ (lt (time nodes (iter (onward nodes t) 0 k + 1)) t ≡ false)
  unfolding iter
  past zero = inl refl
  past (suc k) = by (iter (onward nodes t) 0 k) (past k) (lt (time nodes (iter (onward nodes t) 0 k + 1)) t) refl
    where
      by : (i : ℕ) → (i ≡ k) ⊎ (lt (time nodes (i + 1)) t ≡ false) → (b : Bool) → lt (time nodes (i + 1)) t ≡ b → (cond b (i + 1) i ≡ suc k) ⊎ (lt (time nodes (cond b (i + 1) i + 1)) t ≡ false)
      by i s false e = inr e
      by i (inl h) true e = inl (omega (arith, h))
      by i (inr h) true e = absurd (true≢false (sym e ∙ h))

  reach : (k : ℕ) → iter (onward nodes t) 0 k ≤ k
  unfolding iter
  reach zero = omega arith
  reach (suc k) = by (iter (onward nodes t) 0 k) (reach k) (lt (time nodes (iter (onward nodes t) 0 k + 1)) t)
    where
      by : (i : ℕ) → i ≤ k → (b : Bool) → cond b (i + 1) i ≤ suc k
      by i h false = omega arith
      by i h true = omega arith

  pub walk_below : walk nodes t < 16
  unfolding walk
  walk_below = omega (arith, reach 15)

  -- where the last node's time is not before t it is the definition's
  pub walk_earlier : lt (time nodes 16) t ≡ false → walk nodes t ≡ earlier nodes t
  unfolding walk earlier iter
  walk_earlier h = rw (by (past 15)) refl
    where
      by : (iter (onward nodes t) 0 15 ≡ 15) ⊎ (lt (time nodes (iter (onward nodes t) 0 15 + 1)) t ≡ false) → lt (time nodes (iter (onward nodes t) 0 15 + 1)) t ≡ false
      by (inl e) = rw e h
      by (inr k) = k
