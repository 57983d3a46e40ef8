-- The arc's series ends at its first term that is zero: all later ones are zero too. Assumes nothing.
use Rattle.std.proofs.Common.{◌≡◌, ℕ, zero, suc, ◌+◌, ◌-◌, ◌*◌, ◌/◌, ◌^◌, ◌<◌, ◌≤◌, sym, refl, ap, ◌∙◌, subst, ⊎_elim, le_trans, le_of_suc-le-suc, add-zero, le_of_lt, eq-or-lt_of_le, add-one, arith, below_more}
use Rattle.angles.specs.declared.arc.Arc.{Arc}
use Rattle.angles.specs.declared.arc.Part.{Part}
use Rattle.angles.specs.Arcs.{arc_term, arc_sum}
use Rattle.angles.specs.SizesInner.{ArcAt}
use Rattle.angles.specs.Ended.{Formed, arc_part}
use Rattle.angles.specs.EndedInner.{ArcRun}
use Rattle.angles.specs.EndedLaws.{zero_of, below_of, arc_on, formed_at}
use Rattle.angles.proofs.ArcTerms.{first_at}

module _ (h s : ℕ) (H : h ≤ 2 ^ 59) where
  arc_zeros : (m n : ℕ) → m ≤ n → arc_part h s m ≡ 0 → arc_part h s n ≡ 0
  arc_zeros m zero l e = let z : m ≡ 0 = omega arith in subst (λ (k : ℕ). arc_part h s k ≡ 0) z e
  arc_zeros m (suc n) l e = ⊎_elim (λ p. subst (λ (k : ℕ). arc_part h s k ≡ 0) p e) (λ p. arc_on h s H n (arc_zeros m n (le_of_suc-le-suc p) e)) (eq-or-lt_of_le l)

  arc_still : (n : ℕ) → ((j : ℕ) → n ≤ j → arc_part h s j ≡ 0) → (k : ℕ) → n ≤ k → arc_sum h s k ≡ arc_sum h s n
  unfolding arc_sum
  arc_still n z zero l = let e : 0 ≡ n = omega arith in ap (arc_sum h s) e
  arc_still n z (suc k) l = ⊎_elim (λ p. ap (arc_sum h s) (sym p)) (λ p. ap (λ (t : ℕ). arc_sum h s k + t) (z k (le_of_suc-le-suc p)) ∙ add-zero (arc_sum h s k) ∙ arc_still n z k (le_of_suc-le-suc p)) (eq-or-lt_of_le l)

  -- a part after the end
  pub run_kept : (n m : ℕ) (a : Part) → n ≤ m → (a.terms ≡ 0 → ⊥) → ArcRun h s n a → ArcRun h s m (record { sum = a.sum; p = 0; terms = a.terms })
  run_kept n m a l t r =
      record {
        summed = r.summed ∙ sym (arc_still n (r.none t) m l);
        next = λ e. absurd (t e);
        going = λ e. absurd (t e);
        ended = r.ended;
        none = λ e j k. r.none e j (le_trans l k);
      }

  -- the end at a zero term
  pub run_stops : (n m : ℕ) (a : Arc) → n < m → m ≤ 60 → a.p < 2 * n + 1 → ArcAt h s n a → ((j : ℕ) → j < n → arc_part h s j ≡ 0 → ⊥) → ArcRun h s m (record { sum = a.sum; p = 0; terms = n + 1 })
  run_stops n m a l M b t f =
      record {
        summed = t.summed ∙ sym (arc_still n (λ j k. arc_zeros n j k none) m (le_of_lt l));
        next = λ e. absurd (no e);
        going = λ e. absurd (no e);
        ended = λ e. subst (Formed (arc_part h s) 60) (sym (add-one n)) (formed_at (arc_part h s) 60 n (omega arith) none f);
        none = λ e j k. arc_zeros n j (omega (arith, k)) none;
      }
    where
      none : arc_part h s n ≡ 0
      none = ap (λ (p : ℕ). p / (2 * n + 1)) (sym t.next) ∙ zero_of a.p (2 * n + 1) b

      no : n + 1 ≡ 0 → ⊥
      no e = omega arith

  pub run_goes : (m : ℕ) (a : Arc) → ArcAt h s m a → ((j : ℕ) → j < m → arc_part h s j ≡ 0 → ⊥) → ArcRun h s m (record { sum = a.sum; p = a.p; terms = 0 })
  run_goes m a t f = record { summed = t.summed; next = λ e. t.next; going = λ e. f; ended = λ e. absurd (e refl); none = λ e. absurd (e refl) }

  -- one more term that is not zero
  pub some_more : (n : ℕ) (a : Arc) → 2 * n + 1 ≤ a.p → ArcAt h s n a → ((j : ℕ) → j < n → arc_part h s j ≡ 0 → ⊥) → (j : ℕ) → j < n + 1 → arc_part h s j ≡ 0 → ⊥
  some_more n a b t f = below_more (λ (j : ℕ). arc_part h s j ≡ 0 → ⊥) n f (λ e. no (below_of (arc_term h s n) (2 * n + 1) (omega arith) e) t.next)
    where
      no : arc_term h s n < 2 * n + 1 → a.p ≡ arc_term h s n → ⊥
      no l e = omega arith

  -- term 0
  pub run_none : (q : ℕ) → q ≡ s * h / 2 ^ 60 → s ≡ 0 → ArcRun h s 1 (record { sum = s; p = q / 2; terms = 1 })
  unfolding arc_term
  run_none q e z =
      record {
        summed = (first_at h s q e).summed;
        next = λ k. absurd (no k);
        going = λ k. absurd (no k);
        ended = λ k. formed_at (arc_part h s) 60 0 (omega arith) zero (λ j l. absurd (few j l));
        none = λ k j l. arc_zeros 0 j (omega arith) zero;
      }
    where
      zero : arc_part h s 0 ≡ 0
      zero = ap (λ (x : ℕ). x / 1) z

      no : ◌≡◌ {A = ℕ} 1 0 → ⊥
      no k = omega arith

      few : (j : ℕ) → j < 0 → ⊥
      few j l = omega arith

  pub run_first : (q : ℕ) → q ≡ s * h / 2 ^ 60 → (s ≡ 0 → ⊥) → ArcRun h s 1 (record { sum = s; p = q / 2; terms = 0 })
  unfolding arc_term
  run_first q e z = run_goes 1 (record { sum = s; p = q / 2 }) (first_at h s q e) (λ j l k. z (root (subst (λ (i : ℕ). arc_part h s i ≡ 0) (first j l) k)))
    where
      first : (j : ℕ) → j < 1 → j ≡ 0
      first j l = omega arith

      root : arc_part h s 0 ≡ 0 → s ≡ 0
      root k = omega arith
