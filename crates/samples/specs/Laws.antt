-- What a user of dense samples can count on: where a sample is an end node, that there is always a next node, and which rate and momentum a sample has that
-- falls on a node. Assumes nothing.
use Rattle.std.specs.Prelude.{◌≡◌, ℕ, ◌+◌, ◌<◌, ◌≤◌, Bool, true, false, cond, List, refl, Float, Option, Some, None, Ok}
use Rattle.std.proofs.Common.{sym, ◌∙◌, inl, inr, eq-or-lt_of_le, arith}
use Rattle.std.specs.Float.Ieee.{lt, le}
use Rattle.common.specs.Floats.{one}
use Rattle.common.specs.Lists.{at}
use Rattle.geom.specs.Quats.{exp_so3, normalized, quat_mul}
use Rattle.float_laws.specs.Below.{below_three, below_turns}
use Rattle.float_laws.specs.Exact.{exact}
use Rattle.mean_laws.specs.Means.{Plain}
use Rattle.mean_laws.specs.Weights.{nought, mean_first, mean_last}
use Rattle.samples.specs.Counts.{sample_count}
use Rattle.samples.specs.Samples.{refused, given, time, rate, momentum, at_node, mean, normed_by, turned_by, turned, fraction, between, onward, earlier, interpolate, time_of, sample}
use Rattle.samples.specs.SampleLaws.{not_below, at_first, at_last, amid, in_count}
use Rattle.samples.specs.declared.PathSample.{PathSample}
use Rattle.geom.specs.declared.Quat.{Quat}

-- ---- the walk never ends at the last node: where it is taken, node 16 is not before t, and there is a next node
next_by_law : (nodes : List (List Float)) (t : Float) → lt (time nodes 16) t ≡ false → (i : ℕ) → i ≤ 15 → (b : Bool) → lt (time nodes (i + 1)) t ≡ b → cond b (i + 1) i ≤ 15
next_by_law nodes t h i l false e = l
next_by_law nodes t h i l true e = elim (eq-or-lt_of_le l) [
  | inr k ↦ omega arith
  | inl k ↦ let z : true ≡ false = sym (rw k at e) ∙ h in absurd (let y : ◌≡◌ {A = ℕ} 0 1 = cc in omega arith)
]

pub has_next : (nodes : List (List Float)) (t : Float) → le (time nodes 16) t ≡ false → earlier nodes t < 16
unfolding earlier
has_next nodes t h =
    let s = below_turns (λ (k i : ℕ). i ≤ 15) (onward nodes t) 0 16 (λ k b i l. next_by_law nodes t (not_below (time nodes 16) t h) i l (lt (time nodes (i + 1)) t) refl) (omega arith) in
    omega arith

-- ---- a sample that is given keeps the time, the rate and the momentum that it was made with
record Kept (s : PathSample) (r : PathSample) : Type 0 where
  pub times : r.t ≡ s.t
  pub rates : r.w ≡ s.w
  pub momenta : r.h ≡ s.h

refused_given : {n place : ℕ} {r : PathSample} → refused n place ≡ Ok r → ⊥
refused_given h = let z : ◌≡◌ {A = ℕ} 0 1 = cc in omega arith

given_one : {q r : PathSample} → given q ≡ given r → q ≡ r
given_one h = cc

normed_kept : (x : Option Quat) (s : PathSample) (index : ℕ) {r : PathSample} → normed_by x s index ≡ Ok r → Kept s r
normed_kept None s index g = absurd (refused_given g)
normed_kept (Some q) s index g = rw (← given_one g) (record { times = refl; rates = refl; momenta = refl })

turned_by_kept : (x : Option Quat) (tol : Float) (s : PathSample) (index : ℕ) {r : PathSample} → turned_by x tol s index ≡ Ok r → Kept s r
turned_by_kept None tol s index g = absurd (refused_given g)
turned_by_kept (Some e) tol s index g = normed_kept (normalized tol (quat_mul s.q e)) s index g

turned_kept : (tol : Float) (s : PathSample) (v : List Float) (index : ℕ) {r : PathSample} → turned tol s v index ≡ Ok r → Kept s r
unfolding turned
turned_kept tol s v index g = turned_by_kept (exp_so3 v) tol s index g

-- ---- weighted means at the fractions 0 and 1

-- three finite f64
abbrev pub Plain3 : List Float → Type 0
Plain3 v = (k : ℕ) → k < 3 → Plain (at v k)

mean_start : (a b : List Float) (s : Bool) → Plain3 a → Plain3 b → (k : ℕ) → k < 3 → exact (at (mean a b (nought s)) k) ≡ exact (at a k)
unfolding mean
mean_start a b s p q =
    below_three (λ (k : ℕ). exact (at (mean a b (nought s)) k) ≡ exact (at a k))
    (mean_first (at a 0) (at b 0) s (p 0 (omega arith)) (q 0 (omega arith)))
    (mean_first (at a 1) (at b 1) s (p 1 (omega arith)) (q 1 (omega arith)))
    (mean_first (at a 2) (at b 2) s (p 2 (omega arith)) (q 2 (omega arith)))

mean_end : (a b : List Float) → Plain3 a → Plain3 b → (k : ℕ) → k < 3 → exact (at (mean a b one) k) ≡ exact (at b k)
unfolding mean
mean_end a b p q =
    below_three (λ (k : ℕ). exact (at (mean a b one) k) ≡ exact (at b k))
    (mean_last (at a 0) (at b 0) (p 0 (omega arith)) (q 0 (omega arith)))
    (mean_last (at a 1) (at b 1) (p 1 (omega arith)) (q 1 (omega arith)))
    (mean_last (at a 2) (at b 2) (p 2 (omega arith)) (q 2 (omega arith)))

-- ---- sample number index of n, at the time t
module _ (j : List (List Float)) (tol duration : Float) (nodes : List (List Float)) (requested : ℕ) (alpha : Float) (index : ℕ) {n : ℕ} {t : Float} (counted : sample_count duration requested alpha ≡ Some n)
    (below : index < n) (timed : t ≡ time_of duration n index) where
  placed : sample j tol duration nodes requested alpha index ≡ interpolate j tol nodes t index
  placed = rw timed (sym (in_count j tol nodes duration requested alpha index counted below))

  -- not after the first node: that node
  pub first_node : le t (time nodes 0) ≡ true → sample j tol duration nodes requested alpha index ≡ at_node nodes 0 t
  first_node h = placed ∙ sym (at_first j tol nodes t index refl h)

  module _ (after : le t (time nodes 0) ≡ false) where
    -- not before the last node: that node
    pub last_node : le (time nodes 16) t ≡ true → sample j tol duration nodes requested alpha index ≡ at_node nodes 16 t
    last_node h = placed ∙ sym (at_last j tol nodes t index refl after refl h)

    -- else, where the sample is given, node i before it and the next one finite:
    module _ {i : ℕ} {r : PathSample} (before : le (time nodes 16) t ≡ false) (walked : i ≡ earlier nodes t) (given : sample j tol duration nodes requested alpha index ≡ Ok r) where
      inside : sample j tol duration nodes requested alpha index ≡ between j tol nodes i t index
      inside = placed ∙ sym (amid j tol nodes t index refl after refl before walked)

      pub means : (r.w ≡ mean (rate nodes i) (rate nodes (i + 1)) (fraction nodes i t)) × (r.h ≡ mean (momentum nodes i) (momentum nodes (i + 1)) (fraction nodes i t))
      unfolding between
      means = let kept = turned_kept _ _ _ index (sym inside ∙ given) in (kept.rates, kept.momenta)

      pub sample_time : r.t ≡ t
      unfolding between
      sample_time = (turned_kept _ _ _ index (sym inside ∙ given)).times

      -- at the fraction 0 of either sign its rate is node i's, as exact numbers
      pub rate_at_node : (s : Bool) → fraction nodes i t ≡ nought s → Plain3 (rate nodes i) → Plain3 (rate nodes (i + 1)) → (k : ℕ) → k < 3 → exact (at r.w k) ≡ exact (at (rate nodes i) k)
      rate_at_node s z p q k l = rw (means.0, z) (mean_start (rate nodes i) (rate nodes (i + 1)) s p q k l)

      -- at the fraction 1 it is the next node's
      pub rate_at_next : fraction nodes i t ≡ one → Plain3 (rate nodes i) → Plain3 (rate nodes (i + 1)) → (k : ℕ) → k < 3 → exact (at r.w k) ≡ exact (at (rate nodes (i + 1)) k)
      rate_at_next z p q k l = rw (means.0, z) (mean_end (rate nodes i) (rate nodes (i + 1)) p q k l)

      -- and so is its body momentum
      pub momentum_at_node : (s : Bool) → fraction nodes i t ≡ nought s → Plain3 (momentum nodes i) → Plain3 (momentum nodes (i + 1)) → (k : ℕ) → k < 3 → exact (at r.h k) ≡ exact (at (momentum nodes i) k)
      momentum_at_node s z p q k l = rw (means.1, z) (mean_start (momentum nodes i) (momentum nodes (i + 1)) s p q k l)

      pub momentum_at_next : fraction nodes i t ≡ one → Plain3 (momentum nodes i) → Plain3 (momentum nodes (i + 1)) → (k : ℕ) → k < 3 → exact (at r.h k) ≡ exact (at (momentum nodes (i + 1)) k)
      momentum_at_next z p q k l = rw (means.1, z) (mean_end (momentum nodes i) (momentum nodes (i + 1)) p q k l)
