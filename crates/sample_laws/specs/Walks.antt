-- The walk along the nodes ends where the node's time is before t, and the next one's is not. Assumes nothing.
use Rattle.std.specs.Prelude.{◌≡◌, Bool, true, false, not, cond, List, ◌⊎◌, ℕ, suc, ◌+◌, Float}
use Rattle.std.proofs.Math.Path.{refl}
use Rattle.std.proofs.Math.Logic.{inl}
use Rattle.std.proofs.Common.{inr, arith}
use Rattle.std.proofs.Math.Dec.{T}
use Rattle.std.specs.Float.Ieee.{lt, le}
use Rattle.float_laws.specs.Below.{below_turns}
use Rattle.samples.specs.Samples.{time, onward, earlier}
use Rattle.samples.specs.Laws.{has_next}

module _ (nodes : List (List Float)) (t : Float) where
  record Stands (k i : ℕ) : Type 0 where
    pub past : T (lt (time nodes i) t)
    pub next : (i ≡ k) ⊎ T (not (lt (time nodes (i + 1)) t))

  step : (k i : ℕ) → Stands k i → (b : Bool) → lt (time nodes (i + 1)) t ≡ b → Stands (suc k) (cond b (i + 1) i)
  step k i s false e = record { past = s.past; next = inr (rw e tt) }
  step k i s true e = record { past = rw e tt; next = by s.next }
    where
      by : (i ≡ k) ⊎ T (not (lt (time nodes (i + 1)) t)) → (i + 1 ≡ suc k) ⊎ T (not (lt (time nodes (i + 1 + 1)) t))
      by (inl h) = inl (omega arith)
      by (inr h) = absurd (rw e at h)

  pub walked : T (lt (time nodes 0) t) → le (time nodes 16) t ≡ false → T (lt (time nodes (earlier nodes t)) t) × T (not (lt (time nodes (earlier nodes t + 1)) t))
  unfolding earlier
  walked h before =
      let s = below_turns Stands (onward nodes t) 0 16 (λ k b i s. step k i s (lt (time nodes (i + 1)) t) refl) (record { past = h; next = inl refl }) in
      (s.past, by s.next)
    where
      by : (earlier nodes t ≡ 16) ⊎ T (not (lt (time nodes (earlier nodes t + 1)) t)) → T (not (lt (time nodes (earlier nodes t + 1)) t))
      by (inl e) = let l = has_next nodes t before in absurd (omega arith)
      by (inr h) = h
