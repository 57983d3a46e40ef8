-- The search: its turns, its bounds, and that the duration it answers was verified at every step. Assumes nothing.
use Rattle.std.specs.Prelude.{ℕ, zero, suc, ◌+◌, ◌*◌, ◌≤◌, ◌≡◌, Bool, true, false, cond, Float, Ok, Err}
use Rattle.std.proofs.Math.Path.{refl, ap}
use Rattle.std.proofs.Common.{sym, ◌∙◌, zero-mul, suc-mul}
use native.Mathlib.Omega.{arith}
use Rattle.std.specs.Float.Ieee.{binary64, add, mul}
use Rattle.common.specs.Iter.{iter}
use Rattle.float_laws.specs.Below.{below_turns}
use Rattle.geom.specs.Vec.{half, two}
use Rattle.reference_motion.specs.CaseLaws.{cond_yes, cond_no}
use Rattle.reference_motion.specs.declared.Reference.{Reference}
use Rattle.reference.specs.declared.search.Trials.{Trials}
use Rattle.reference.specs.declared.search.SearchResult.{SearchResult}
use Rattle.reference.specs.Prepare.{with_times}
use Rattle.reference_checks.specs.Checks.{verify}
use Rattle.reference_checks.specs.StepLaws.{verify_few}
use Rattle.reference_checks.specs.PromisesKept.{never}
use Rattle.reference_checks.specs.declared.Verdict.{Verdict}
use Rattle.reference.specs.Search as Search
use Rattle.common.specs.Refusals.{Fate, going}
use Rattle.common.specs.declared.Refusal.{Refusal}

apart : {A : Type 0} → true ≡ false → A
apart e = let z : ◌≡◌ {A = ℕ} 0 1 = ap (λ (b : Bool). cond b 0 1) e in absurd (omega arith)

-- either way out of a test
either : (P : Trials → Type 0) (b : Bool) (x y : Trials) → (b ≡ true → P x) → (b ≡ false → P y) → P (cond b x y)
either P true x y p q = p refl
either P false x y p q = q refl

-- a turn that evaluates at most m samples, n times
grows : (f : ℕ → Trials → Trials) (m : ℕ) → ((k : ℕ) (x : Trials) → (f k x).samples ≤ x.samples + m) → (s : Trials) (n : ℕ) → (iter f s n).samples ≤ s.samples + n * m
unfolding iter
grows f m h s zero = omega (arith, zero-mul m)
grows f m h s (suc n) = omega (arith, h n (iter f s n), grows f m h s n, suc-mul n m)

-- a reference of other times has their steps
pub times_steps : (r : Reference) (t : Float) (n : ℕ) {x : Reference} → x ≡ with_times r t n → x.steps ≡ n
unfolding with_times
times_steps r t n e = ap (λ (x : Reference). x.steps) e

module _ (r : Reference) (steps : ℕ) where
  -- ---- turns

  pub lengthen_stays : (factor : Float) (s : Trials) → s.found ≡ true → s ≡ Search.lengthen r steps factor s
  unfolding Search.lengthen
  lengthen_stays factor s e = cond_yes s.found _ _ e

  pub lengthen_goes : (factor : Float) (s : Trials) → s.found ≡ false → Search.trial r steps s s.next (mul binary64 factor s.next) ≡ Search.lengthen r steps factor s
  unfolding Search.lengthen
  lengthen_goes factor s e = cond_no s.found _ _ e

  pub bisect_stays : (s : Trials) → s.found ≡ false → s ≡ Search.bisect r steps s
  unfolding Search.bisect
  bisect_stays s e = cond_no s.found _ _ e

  pub bisect_goes : (s : Trials) → s.found ≡ true → Search.trial r steps s (mul binary64 half (add binary64 s.low s.best)) s.next ≡ Search.bisect r steps s
  unfolding Search.bisect
  bisect_goes s e = cond_yes s.found _ _ e

  -- ---- one trial more

  module _ (s : Trials) (t next : Float) {x : Reference} {v : Verdict} (at-times : x ≡ with_times r t steps) (is : v ≡ verify x) where
    abbrev By : Verdict → Trials
    By w = Search.trial_by w.fate w.samples s t next

    meant : v ≡ verify (with_times r t steps)
    meant = is ∙ ap verify at-times

    pub trial_passes : v.fate ≡ going → Search.record_pass s t v.samples ≡ Search.trial r steps s t next
    unfolding Search.trial
    trial_passes g = ap (λ (f : Fate). Search.trial_by f v.samples s t next) (sym g) ∙ ap By meant

    pub trial_refused : {why : Refusal} → v.fate ≡ Err why → Search.record_refusal s t next why v.samples ≡ Search.trial r steps s t next
    unfolding Search.trial
    trial_refused g = ap (λ (f : Fate). Search.trial_by f v.samples s t next) (sym g) ∙ ap By meant

  count_by : (f : Fate) (n : ℕ) (s : Trials) (t next : Float) → (Search.trial_by f n s t next).count ≡ s.count + 1
  count_by (Ok _) n s t next = refl
  count_by (Err why) n s t next = refl

  samples_by : (f : Fate) (n : ℕ) (s : Trials) (t next : Float) → (Search.trial_by f n s t next).samples ≡ s.samples + n
  samples_by (Ok _) n s t next = refl
  samples_by (Err why) n s t next = refl

  trial_count : (s : Trials) (t next : Float) → (Search.trial r steps s t next).count ≡ s.count + 1
  unfolding Search.trial
  trial_count s t next = count_by (verify (with_times r t steps)).fate (verify (with_times r t steps)).samples s t next

  few : (t : Float) → (verify (with_times r t steps)).samples ≤ steps + 2
  unfolding with_times
  few t = verify_few (with_times r t steps)

  trial_samples : (s : Trials) (t next : Float) → (Search.trial r steps s t next).samples ≤ s.samples + (steps + 2)
  unfolding Search.trial
  trial_samples s t next = omega (arith, few t, samples_by (verify (with_times r t steps)).fate (verify (with_times r t steps)).samples s t next)

  pub lengthen_count : (factor : Float) (s : Trials) → (Search.lengthen r steps factor s).count ≤ s.count + 1
  unfolding Search.lengthen
  lengthen_count factor s = either (λ (x : Trials). x.count ≤ s.count + 1) s.found _ _ (λ e. omega arith) (λ e. omega (arith, trial_count s s.next (mul binary64 factor s.next)))

  pub bisect_count : (s : Trials) → (Search.bisect r steps s).count ≤ s.count + 1
  unfolding Search.bisect
  bisect_count s = either (λ (x : Trials). x.count ≤ s.count + 1) s.found _ _ (λ e. omega (arith, trial_count s (mul binary64 half (add binary64 s.low s.best)) s.next)) (λ e. omega arith)

  pub lengthen_samples : (factor : Float) (s : Trials) → (Search.lengthen r steps factor s).samples ≤ s.samples + (steps + 2)
  unfolding Search.lengthen
  lengthen_samples factor s = either (λ (x : Trials). x.samples ≤ s.samples + (steps + 2)) s.found _ _ (λ e. omega arith) (λ e. trial_samples s s.next (mul binary64 factor s.next))

  pub bisect_samples : (s : Trials) → (Search.bisect r steps s).samples ≤ s.samples + (steps + 2)
  unfolding Search.bisect
  bisect_samples s = either (λ (x : Trials). x.samples ≤ s.samples + (steps + 2)) s.found _ _ (λ e. trial_samples s (mul binary64 half (add binary64 s.low s.best)) s.next) (λ e. omega arith)

  -- ---- the duration that stands was verified, where the last trial was

  abbrev Stands : Trials → Type 0
  Stands s = s.fate ≡ going → (verify (with_times r s.best steps)).fate ≡ going

  stands_by : (f : Fate) (n : ℕ) (s : Trials) (t next : Float) → (verify (with_times r t steps)).fate ≡ f → Stands (Search.trial_by f n s t next)
  stands_by (Ok _) n s t next e g = e
  stands_by (Err why) n s t next e g = never g

  trial_stands : (s : Trials) (t next : Float) → Stands (Search.trial r steps s t next)
  unfolding Search.trial
  trial_stands s t next = stands_by (verify (with_times r t steps)).fate (verify (with_times r t steps)).samples s t next refl

  lengthen_stands : (factor : Float) (s : Trials) → Stands s → Stands (Search.lengthen r steps factor s)
  unfolding Search.lengthen
  lengthen_stands factor s h = either Stands s.found _ _ (λ e. h) (λ e. trial_stands s _ _)

  pub lengthened_stands : (factor : Float) (s : Trials) (n : ℕ) → Stands s → Stands (iter (Search.lengthen_turn r steps factor) s n)
  lengthened_stands factor s n h = below_turns (λ (k : ℕ) (x : Trials). Stands x) (Search.lengthen_turn r steps factor) s n (λ k l x p. lengthen_stands factor x p) h

  -- ---- where none was found, the last trial was refused

  abbrev Missed : Trials → Type 0
  Missed s = s.found ≡ false → s.fate ≡ going → ⊥

  missed_by : (f : Fate) (n : ℕ) (s : Trials) (t next : Float) → Missed (Search.trial_by f n s t next)
  missed_by (Ok _) n s t next e g = apart e
  missed_by (Err why) n s t next e g = never g

  trial_missed : (s : Trials) (t next : Float) → Missed (Search.trial r steps s t next)
  unfolding Search.trial
  trial_missed s t next = missed_by (verify (with_times r t steps)).fate (verify (with_times r t steps)).samples s t next

  lengthen_missed : (factor : Float) (s : Trials) → Missed s → Missed (Search.lengthen r steps factor s)
  unfolding Search.lengthen
  lengthen_missed factor s h = either Missed s.found _ _ (λ e. h) (λ e. trial_missed s _ _)

  bisect_missed : (s : Trials) → Missed s → Missed (Search.bisect r steps s)
  unfolding Search.bisect
  bisect_missed s h = either Missed s.found _ _ (λ e. trial_missed s _ _) (λ e. h)

  lengthened_missed : (factor : Float) (s : Trials) (n : ℕ) → Missed s → Missed (iter (Search.lengthen_turn r steps factor) s n)
  lengthened_missed factor s n h = below_turns (λ (k : ℕ) (x : Trials). Missed x) (Search.lengthen_turn r steps factor) s n (λ k l x p. lengthen_missed factor x p) h

  bisected_missed : (s : Trials) (n : ℕ) → Missed s → Missed (iter (Search.bisect_turn r steps) s n)
  bisected_missed s n h = below_turns (λ (k : ℕ) (x : Trials). Missed x) (Search.bisect_turn r steps) s n (λ k l x p. bisect_missed x p) h

  pub coarse_missed : Missed (Search.coarse_trials r steps)
  unfolding Search.coarse_trials
  coarse_missed = bisected_missed _ 12 (lengthened_missed two Search.initial_trials 21 (λ e g. never g))

-- ---- the answer

module _ (r : Reference) where
  finish_by : (b : Bool) (s : Trials) → (b ≡ false → s.fate ≡ going → ⊥) → (x y : SearchResult) → x ≡ Search.result_of (iter (Search.lengthen_turn r r.steps Search.small_factor) (Search.fine_trials s) 32) → y ≡ Search.result_of s
      → (cond b x y).fate ≡ going → (verify (with_times r (cond b x y).duration r.steps)).fate ≡ going
  finish_by true s h x y p q g = rw p (lengthened_stands r r.steps Search.small_factor (Search.fine_trials s) 32 (λ e. never e) (rw p at g))
  finish_by false s h x y p q g = absurd (h refl (rw q at g))

  -- THE DURATION ANSWERED was verified at every step
  pub shortest_verified : (coarse : ℕ) → (Search.shortest r coarse).fate ≡ going → (verify (with_times r (Search.shortest r coarse).duration r.steps)).fate ≡ going
  unfolding Search.shortest Search.finish
  shortest_verified coarse g = finish_by (Search.coarse_trials r coarse).found (Search.coarse_trials r coarse) (coarse_missed r coarse) _ _ refl refl g

  pub finish_goes : (s : Trials) → s.found ≡ true → Search.result_of (iter (Search.lengthen_turn r r.steps Search.small_factor) (Search.fine_trials s) 32) ≡ Search.finish r s
  unfolding Search.finish
  finish_goes s e = cond_yes s.found _ _ e

  pub finish_ends : (s : Trials) → s.found ≡ false → Search.result_of s ≡ Search.finish r s
  unfolding Search.finish
  finish_ends s e = cond_no s.found _ _ e

  -- SAMPLES: at most 33 trials on the coarse grid and 32 at all steps
  coarse_samples : (coarse : ℕ) → (Search.coarse_trials r coarse).samples ≤ 33 * (coarse + 2)
  unfolding Search.coarse_trials
  coarse_samples coarse =
      let doubled = iter (Search.lengthen_turn r coarse two) Search.initial_trials 21 in
      omega (
        arith,
        grows (Search.lengthen_turn r coarse two) (coarse + 2) (λ k x. lengthen_samples r coarse two x) Search.initial_trials 21,
        grows (Search.bisect_turn r coarse) (coarse + 2) (λ k x. bisect_samples r coarse x) doubled 12,
      )

  samples_either : (b : Bool) (x y : SearchResult) (m : ℕ) → x.samples ≤ m → y.samples ≤ m → (cond b x y).samples ≤ m
  samples_either true x y m p q = p
  samples_either false x y m p q = q

  pub shortest_samples : (coarse : ℕ) → (Search.shortest r coarse).samples ≤ 33 * (coarse + 2) + 32 * (r.steps + 2)
  unfolding Search.shortest Search.finish
  shortest_samples coarse =
      let s = Search.coarse_trials r coarse in
      let few = grows (Search.lengthen_turn r r.steps Search.small_factor) (r.steps + 2) (λ k x. lengthen_samples r r.steps Search.small_factor x) (Search.fine_trials s) 32 in
      samples_either s.found _ _ _ (omega (arith, few, coarse_samples coarse)) (omega (arith, coarse_samples coarse))
