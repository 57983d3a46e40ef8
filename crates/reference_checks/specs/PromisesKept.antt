-- A verified reference keeps what it promises. Assumes nothing.
use Rattle.std.specs.Prelude.{ℕ, zero, suc, ◌+◌, ◌<◌, ◌≤◌, ◌≡◌, Bool, cond, List, [], ◌∷◌, Float, Option, Some, None, Ok, Err}
use Rattle.std.proofs.Math.Path.{refl}
use Rattle.std.proofs.Common.{sym, ap, ◌∙◌, add-one, arith}
use Rattle.std.proofs.Math.Bool.{true, false}
use Rattle.std.specs.Float.Ieee.{le, eq}
use Rattle.common.specs.Floats.{plus_zero}
use Rattle.common.specs.Iter.{iter}
use Rattle.common.specs.Lists.{at}
use Rattle.float_laws.specs.Below.{below_none, below_next, below_three}
use Rattle.geom.specs.Quats.{norm3}
use Rattle.geom.specs.declared.Quat.{Quat}
use Rattle.reference_motion.specs.declared.Reference.{Reference}
use Rattle.reference_motion.specs.declared.Sample.{Sample}
use Rattle.reference_motion.specs.Motion.{rotation_vector}
use Rattle.reference_motion.specs.Momenta.{body_vector}
use Rattle.reference_checks.specs.Checks as Checks
use Rattle.reference_checks.specs.Promises.{AtMost, WheelsWithin, SampleWithin, StepWithin, AtRest, AtStart, AtEnd, Promised}
use Rattle.reference_checks.specs.ExactLaws.{and_both, fits_exact}
use Rattle.common.specs.Refusals.{Fate, refusal, going}

pub never : {n i : ℕ} {A : Type 0} → Err (refusal n i) ≡ going → A
never e = let z : ◌≡◌ {A = ℕ} 0 1 = cc in absurd (omega arith)

-- ---- tests

-- a check that passes: its test held, and what comes after it passes
past : (b : Bool) (f : Fate) (n i : ℕ) → cond b f (Err (refusal n i)) ≡ going → (b ≡ true) × (f ≡ going)
past true f n i g = (refl, g)
past false f n i g = never g

-- a check that is made only where b holds
where_so : (b : Bool) (f : Fate) → cond b f going ≡ going → b ≡ true → f ≡ going
where_so true f g e = g
where_so false f g e = let z : ◌≡◌ {A = Bool} false true = e in cc

within_each : (v l : List Float) (n : ℕ) → iter (Checks.within_turn v l) true n ≡ true → (i : ℕ) → i < n → AtMost (at v i) (at l i)
unfolding iter
within_each v l zero e = below_none (λ (i : ℕ). AtMost (at v i) (at l i))
within_each v l (suc n) e =
    let s = and_both (iter (Checks.within_turn v l) true n) (Checks.fits (at v n) (at l n)) e in
    below_next (λ (i : ℕ). AtMost (at v i) (at l i)) n (fits_exact (at v n) (at l n) s.1) (within_each v l n s.0)

all_within : (v l : List Float) (n : ℕ) → Checks.within v l n ≡ true → (i : ℕ) → i < n → AtMost (at v i) (at l i)
unfolding Checks.within
all_within v l n e = within_each v l n e

equal_each : (v u : List Float) (n : ℕ) → iter (Checks.equal_turn v u) true n ≡ true → (i : ℕ) → i < n → eq (at v i) (at u i) ≡ true
unfolding iter
equal_each v u zero e = below_none (λ (i : ℕ). eq (at v i) (at u i) ≡ true)
equal_each v u (suc n) e =
    let s = and_both (iter (Checks.equal_turn v u) true n) (eq (at v n) (at u n)) e in
    below_next (λ (i : ℕ). eq (at v i) (at u i) ≡ true) n s.1 (equal_each v u n s.0)

box_within : (t l : List Float) → Checks.in_box t l ≡ true → (i : ℕ) → i < 3 → AtMost (at t i) (at l i)
unfolding Checks.in_box
box_within t l e =
    let a = and_both (Checks.fits (at t 0) (at l 0)) _ e in
    let b = and_both (Checks.fits (at t 1) (at l 1)) _ a.1 in
    below_three (λ (i : ℕ). AtMost (at t i) (at l i)) (fits_exact _ _ a.0) (fits_exact _ _ b.0) (fits_exact _ _ b.1)

rests : (w : List Float) → Checks.at_rest_value w ≡ true → AtRest w
rests w e =
    let a = and_both (eq (at w 0) plus_zero) _ e in
    let b = and_both (eq (at w 1) plus_zero) _ a.1 in
    below_three (λ (i : ℕ). eq (at w i) plus_zero ≡ true) a.0 b.0 b.1

rate_within : (limit : Float) (l : Option Float) (w : List Float) → Checks.rate_fits l w ≡ true → l ≡ Some limit → AtMost (norm3 w) limit
rate_within limit l w e g = fits_exact (norm3 w) limit (ap (λ (x : Option Float). Checks.rate_fits x w) (sym g) ∙ e)

-- ---- a sample

momenta_passed : (r : Reference) (s : Sample) (k : ℕ) → Checks.check_momenta r s k ≡ going → WheelsWithin r s
unfolding Checks.check_momenta
momenta_passed r s k g =
    let a = past (Checks.within s.h r.momentum_limits r.count) _ 19 k g in
    let b = past (Checks.is_balanced r s) _ 30 k a.1 in
    record { momenta = all_within _ _ _ a.0; balance = b.0 }

limits_passed : (r : Reference) (s : Sample) (k : ℕ) → s.fate ≡ going → Checks.check_limits r s k ≡ going → SampleWithin r s
unfolding Checks.check_limits Checks.check_wheels
limits_passed r s k e g =
    let a = past (Checks.rate_fits r.slew s.w) (Checks.check_wheels r s k) 18 k g in
    record { goes = e; rate = λ limit h. rate_within limit r.slew s.w a.0 h; wheels = λ h. momenta_passed r s k (where_so r.wheels (Checks.check_momenta r s k) a.1 h) }

sample_by_law : (f : Fate) (r : Reference) (s : Sample) (k : ℕ) → s.fate ≡ f → Checks.check_sample_by f r s k ≡ going → SampleWithin r s
sample_by_law (Err why) r s k e g = never g
sample_by_law (Ok _) r s k e g = limits_passed r s k e g

sample_passed : (r : Reference) (s : Sample) (k : ℕ) → Checks.check_sample r s k ≡ going → SampleWithin r s
unfolding Checks.check_sample
sample_passed r s k g = sample_by_law s.fate r s k refl g

-- ---- a step

powers_passed : (r : Reference) (u : List Float) (k : ℕ) → Checks.check_powers r u k ≡ going → r.wheels ≡ true → (i : ℕ) → i < r.count → AtMost (at (Checks.powers_of r u k) i) (at r.power_limits i)
unfolding Checks.check_powers Checks.powers_fit
powers_passed r u k g e = all_within _ _ _ (past (Checks.powers_fit r u k) going 13 k (where_so r.wheels _ g e)).0

controls_passed : (r : Reference) (u : List Float) (k : ℕ) → Checks.check_controls r u k ≡ going → StepWithin r k u
unfolding Checks.check_controls
controls_passed r u k g =
    let a = past (Checks.within u r.limits r.count) _ 29 k g in
    let b = past (Checks.in_box (body_vector r.axes r.count u) r.torque_limit) _ 17 k a.1 in
    record { controls = all_within _ _ _ a.0; torques = box_within _ _ b.0; powers = powers_passed r u k b.1 }

-- what a step that passes says: of the sample at its end, and of its controls
abbrev Passed : Reference → ℕ → Type 0
Passed r k = SampleWithin r (Checks.sample_of r (k + 1)) × StepWithin r k (Checks.controls_of r k)

step_by : (f : Fate) (r : Reference) (k : ℕ) → Checks.check_sample r (Checks.sample_of r (k + 1)) (k + 1) ≡ f → Checks.check_step_by f r k (Checks.sample_of r k).h (Checks.sample_of r (k + 1)).h ≡ going → Passed r k
unfolding Checks.controls_of
step_by (Err why) r k e g = never g
step_by (Ok _) r k e g = (sample_passed r _ (k + 1) e, controls_passed r _ k g)

step_passed : (r : Reference) (k : ℕ) → Checks.check_step r k (Checks.sample_of r k) (Checks.sample_of r (k + 1)) ≡ going → Passed r k
unfolding Checks.check_step
step_passed r k g = step_by (Checks.check_sample r (Checks.sample_of r (k + 1)) (k + 1)) r k refl g

turn_both : (f : Fate) (r : Reference) (k n : ℕ) → (Checks.step_turn_by f r k n).fate ≡ going → (f ≡ going) × Passed r k
turn_both (Ok _) r k n g = (refl, step_passed r k g)
turn_both (Err why) r k n g = never g

steps_passed : (r : Reference) (m : ℕ) → (iter (Checks.step_turn r) (Checks.verdict going 1) m).fate ≡ going → (k : ℕ) → k < m → Passed r k
unfolding iter
steps_passed r zero g = below_none (Passed r)
steps_passed r (suc m) g =
    let v = iter (Checks.step_turn r) (Checks.verdict going 1) m in
    let s = turn_both v.fate r m v.samples g in
    below_next (Passed r) m s.1 (steps_passed r m s.0)

-- ---- the start and the end

start_passed : (r : Reference) (s : Sample) → Checks.check_start r s ≡ going → AtStart r s
unfolding Checks.check_start Checks.equal
start_passed r s g =
    let a = past (Checks.at_rest_value s.w) _ 15 0 g in
    let b = past (Checks.equal_attitudes s.q r.q0) _ 14 0 a.1 in
    let c = past (Checks.equal s.h r.start r.count) _ 30 0 b.1 in
    record { rest = rests s.w a.0; attitude = b.0; momenta = equal_each s.h r.start r.count c.0 }

first_by : (f : Fate) (r : Reference) (s : Sample) → Checks.check_sample r s 0 ≡ f → Checks.check_first_by f r s ≡ going → SampleWithin r s × AtStart r s
first_by (Err why) r s e g = never g
first_by (Ok _) r s e g = (sample_passed r s 0 e, start_passed r s g)

first_passed : (r : Reference) (s : Sample) → Checks.check_first r s ≡ going → SampleWithin r s × AtStart r s
unfolding Checks.check_first
first_passed r s g = first_by (Checks.check_sample r s 0) r s refl g

end_by : (t : Option (Float × Float × Float)) (s : Sample) (qf : Quat) (n : ℕ) → AtRest s.w → rotation_vector s.q qf ≡ t → Checks.check_attitude_by t n ≡ going → AtEnd s qf
end_by None s qf n h e g = never g
end_by (Some (a, b, c)) s qf n h e g = record { rest = h; x = a; y = b; z = c; error = e; small = (past (le (norm3 (a ∷ b ∷ c ∷ [])) Checks.tolerance) going 14 n g).0 }

end_passed : (r : Reference) → Checks.check_end r ≡ going → AtEnd (Checks.sample_of r r.steps) r.qf
unfolding Checks.check_end Checks.check_attitude
end_passed r g =
    let s = Checks.sample_of r r.steps in
    let a = past (Checks.at_rest_value s.w) (Checks.check_attitude r s.q) 15 r.steps g in
    end_by (rotation_vector s.q r.qf) s r.qf r.steps (rests s.w a.0) refl a.1

-- ---- the whole

module _ (r : Reference) where
  all_samples : SampleWithin r (Checks.sample_of r 0) → ((k : ℕ) → k < r.steps → Passed r k) → (k : ℕ) → k ≤ r.steps → SampleWithin r (Checks.sample_of r k)
  all_samples first rest zero h = first
  all_samples first rest (suc k) h = rw add-one at (rest k (omega arith)).0

  rest_by : Checks.times_fit r ≡ true → (f : Fate) (n : ℕ) → (Checks.check_steps r).fate ≡ f → SampleWithin r (Checks.sample_of r 0) × AtStart r (Checks.sample_of r 0) → (Checks.check_rest_by f r n).fate ≡ going → Promised r
  unfolding Checks.check_steps
  rest_by t (Err why) n e first g = never g
  rest_by t (Ok _) n e first g =
      let rest = steps_passed r r.steps e in
      record { times = t; start = first.1; samples = all_samples first.0 rest; steps = λ k h. (rest k h).1; end = end_passed r g }

  samples_by : Checks.times_fit r ≡ true → (f : Fate) → Checks.check_first r (Checks.sample_of r 0) ≡ f → (Checks.check_samples_by f r).fate ≡ going → Promised r
  unfolding Checks.check_rest
  samples_by t (Err why) e g = never g
  samples_by t (Ok _) e g = rest_by t (Checks.check_steps r).fate (Checks.check_steps r).samples refl (first_passed r _ e) g

  times_by : (b : Bool) → Checks.times_fit r ≡ b → (cond b (Checks.check_samples r) (Checks.verdict (Err (refusal 10 0)) 0)).fate ≡ going → Promised r
  unfolding Checks.check_samples
  times_by false e g = never g
  times_by true e g = samples_by e (Checks.check_first r (Checks.sample_of r 0)) refl g

  pub verified : (Checks.verify r).fate ≡ going → Promised r
  unfolding Checks.verify
  verified g = times_by (Checks.times_fit r) refl g
