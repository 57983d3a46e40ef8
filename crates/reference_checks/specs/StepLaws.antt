-- The loop over the steps: one step more, the early way out, the end after it; and how many samples the checks evaluate. Assumes nothing.
use Rattle.std.specs.Prelude.{ℕ, zero, suc, ◌+◌, ◌<◌, ◌≤◌, ◌≡◌, refl, Bool, cond, Ok, Err}
use Rattle.std.proofs.Common.{sym, ◌∙◌}
use Rattle.std.proofs.Math.Path.{ap}
use Rattle.std.proofs.Math.Bool.{true, false}
use native.Mathlib.Omega.{arith}
use Rattle.common.specs.Iter.{iter}
use Rattle.common.specs.IterLaws.{iter_next, iter_stays}
use Rattle.reference_motion.specs.declared.Reference.{Reference}
use Rattle.reference_motion.specs.declared.Sample.{Sample}
use Rattle.reference_checks.specs.declared.Verdict.{Verdict}
use Rattle.reference_checks.specs.Checks as Checks
use Rattle.common.specs.Refusals.{Fate, refusal, going}
use Rattle.common.specs.declared.Refusal.{Refusal}

module _ (r : Reference) (k : ℕ) {f : Fate} {last next : Sample} (before : Checks.verdict going (k + 1) ≡ iter (Checks.step_turn r) (Checks.verdict going 1) k) (ends : (last ≡ Checks.sample_of r k) × (next ≡ Checks.sample_of r (k + 1))) (is : f ≡ Checks.check_step r k last next) where
  turn : {g : Fate} → f ≡ g → Checks.verdict g (k + 1 + 1) ≡ Checks.step_turn r k (Checks.verdict going (k + 1))
  turn g = ap (λ (h : Fate). Checks.verdict h (k + 1 + 1)) (sym g ∙ (rw (ends.0, ends.1) at is))

  -- step k passes
  pub steps_next : f ≡ going → Checks.verdict going (k + 1 + 1) ≡ iter (Checks.step_turn r) (Checks.verdict going 1) (k + 1)
  steps_next g = iter_next _ _ k before (turn g)

  -- step k is refused
  pub steps_refused : {why : Refusal} {m : ℕ} → m ≡ k + 1 + 1 → k < r.steps → f ≡ Err why → Checks.verdict (Err why) m ≡ Checks.check_steps r
  unfolding Checks.check_steps
  steps_refused e h g = rw e (iter_stays _ _ (k + 1) r.steps (omega arith) (iter_next _ _ k before (turn g)) (λ j. refl))

-- every step has passed
pub steps_all : (r : Reference) (k n : ℕ) → Checks.verdict going n ≡ iter (Checks.step_turn r) (Checks.verdict going 1) k → k ≡ r.steps → Checks.verdict going n ≡ Checks.check_steps r
unfolding Checks.check_steps
steps_all r k n p e = rw e at p

-- the end after the steps that v says
module _ (r : Reference) (v : Verdict) (is : v ≡ Checks.check_steps r) where
  abbrev Rest : Verdict → Verdict
  Rest x = Checks.check_rest_by x.fate r x.samples

  pub rest_refused : {why : Refusal} → v.fate ≡ Err why → v ≡ Checks.check_rest r
  unfolding Checks.check_rest
  rest_refused g = ap (λ (f : Fate). Checks.verdict f v.samples) g ∙ (ap (λ (f : Fate). Checks.check_rest_by f r v.samples) (sym g) ∙ ap Rest is)

  pub rest_goes : {f : Fate} → v.fate ≡ going → f ≡ Checks.check_end r → Checks.verdict f (v.samples + 1) ≡ Checks.check_rest r
  unfolding Checks.check_rest
  rest_goes g h = ap (λ (f : Fate). Checks.verdict f (v.samples + 1)) h ∙ (ap (λ (f : Fate). Checks.check_rest_by f r v.samples) (sym g) ∙ ap Rest is)

-- ---- how many samples the checks evaluate

turn_few : (f : Fate) (r : Reference) (k n : ℕ) → (Checks.step_turn_by f r k n).samples ≤ n + 1
turn_few (Ok _) r k n = omega arith
turn_few (Err why) r k n = omega arith

steps_few : (r : Reference) (m : ℕ) → (iter (Checks.step_turn r) (Checks.verdict going 1) m).samples ≤ m + 1
unfolding iter
steps_few r zero = omega arith
steps_few r (suc m) =
    let v = iter (Checks.step_turn r) (Checks.verdict going 1) m in
    omega (arith, turn_few v.fate r m v.samples, steps_few r m)

module _ (r : Reference) where
  rest_few : (f : Fate) (n : ℕ) → n ≤ r.steps + 1 → (Checks.check_rest_by f r n).samples ≤ r.steps + 2
  rest_few (Ok _) n h = omega arith
  rest_few (Err why) n h = omega arith

  samples_few : (f : Fate) → (Checks.check_samples_by f r).samples ≤ r.steps + 2
  unfolding Checks.check_rest Checks.check_steps
  samples_few (Err why) = omega arith
  samples_few (Ok _) = rest_few (Checks.check_steps r).fate (Checks.check_steps r).samples (steps_few r r.steps)

  times_few : (b : Bool) → (cond b (Checks.check_samples r) (Checks.verdict (Err (refusal 10 0)) 0)).samples ≤ r.steps + 2
  unfolding Checks.check_samples
  times_few true = samples_few (Checks.check_first r (Checks.sample_of r 0))
  times_few false = omega arith

  -- SAMPLES: at most two more than there are steps
  pub verify_few : (Checks.verify r).samples ≤ r.steps + 2
  unfolding Checks.verify
  verify_few = times_few (Checks.times_fit r)
