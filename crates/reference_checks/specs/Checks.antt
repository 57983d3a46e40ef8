-- The checks of a reference, in their order: verify, at the end, reads first. A comparison that a NaN enters refuses. Definitions only.
use Rattle.std.specs.Prelude.{ℕ, ◌+◌, Bool, true, cond, ◌&&◌, List, [], ◌∷◌, ltb, Float, Option, Some, None, Ok, Err}
use Rattle.std.specs.Float.{binary64}
use Rattle.std.specs.Float.Ieee.{add, mul, le, eq, of_bits}
use Rattle.common.specs.Floats.{one, plus_zero}
use Rattle.common.specs.Iter.{iter}
use Rattle.common.specs.Lists.{at}
use Rattle.float.specs.Ops.{abs}
use Rattle.geom.specs.Vec.{sub3, dot3, is_positive_value}
use Rattle.geom.specs.Quats.{norm3}
use Rattle.geom.specs.declared.Quat.{Quat}
use Rattle.actuators.specs.Maps.{axis_at}
use Rattle.control_rows.specs.Stored.{stored}
use Rattle.reference_motion.specs.declared.Reference.{Reference}
use Rattle.reference_motion.specs.declared.Sample.{Sample}
use Rattle.reference_motion.specs.Motion.{fraction, mid_fraction, rate_at, rotation_vector}
use Rattle.reference_motion.specs.Momenta.{sample_at, required_momentum, body_vector, controls}
use Rattle.reference_checks.specs.declared.Verdict.{Verdict}
use Rattle.common.specs.Refusals.{Fate, refusal, going}

-- ---- comparisons

-- 1e-9
abbrev pub tolerance : Float
tolerance = of_bits binary64 0x3e11_2e0b_e826_d695

-- at most the limit in size, which is finite and above 0
abbrev pub fits : Float → Float → Bool
fits x limit = is_positive_value limit && le (abs x) limit

abbrev pub within_turn : List Float → List Float → ℕ → Bool → Bool
within_turn v limits k b = b && fits (at v k) (at limits k)

-- the first n numbers are
unfoldable pub within : List Float → List Float → ℕ → Bool
within v limits n = iter (within_turn v limits) true n

-- a torque's three parts are
unfoldable pub in_box : List Float → List Float → Bool
in_box t limit = fits (at t 0) (at limit 0) && (fits (at t 1) (at limit 1) && fits (at t 2) (at limit 2))

-- a rate's length is at most the slew limit
abbrev pub rate_fits : Option Float → List Float → Bool
rate_fits None w = true
rate_fits (Some limit) w = fits (norm3 w) limit

abbrev pub equal_turn : List Float → List Float → ℕ → Bool → Bool
equal_turn v u k b = b && eq (at v k) (at u k)

-- the first n numbers of two rows are equal
unfoldable pub equal : List Float → List Float → ℕ → Bool
equal v u n = iter (equal_turn v u) true n

abbrev pub equal_attitudes : Quat → Quat → Bool
equal_attitudes a b = eq a.w b.w && (eq a.x b.x && (eq a.y b.y && eq a.z b.z))

-- a rate is zero
abbrev pub at_rest_value : List Float → Bool
at_rest_value w = eq (at w 0) plus_zero && (eq (at w 1) plus_zero && eq (at w 2) plus_zero)

-- ---- a sample

-- A h - (Rᵀ H₀ - J w)
unfoldable pub imbalance : Reference → Sample → List Float
imbalance r s = sub3 (body_vector r.axes r.count s.h) (required_momentum r s.rotation s.w)

-- at most 1e-9 (1 + |H₀|) in length
unfoldable pub is_balanced : Reference → Sample → Bool
is_balanced r s = le (norm3 (imbalance r s)) (mul binary64 tolerance (add binary64 one (norm3 r.total)))

-- 19 and 30, at sample k
unfoldable pub check_momenta : Reference → Sample → ℕ → Fate
check_momenta r s k = cond (within s.h r.momentum_limits r.count) (cond (is_balanced r s) going (Err (refusal 30 k))) (Err (refusal 19 k))

-- the same, where there are wheels
unfoldable pub check_wheels : Reference → Sample → ℕ → Fate
check_wheels r s k = cond r.wheels (check_momenta r s k) going

-- 18 before them
unfoldable pub check_limits : Reference → Sample → ℕ → Fate
check_limits r s k = cond (rate_fits r.slew s.w) (check_wheels r s k) (Err (refusal 18 k))

abbrev pub check_sample_by : Fate → Reference → Sample → ℕ → Fate
check_sample_by (Err why) r s k = Err (refusal why.number k)
check_sample_by (Ok _) r s k = check_limits r s k

-- 11 before that
unfoldable pub check_sample : Reference → Sample → ℕ → Fate
check_sample r s k = check_sample_by s.fate r s k

-- ---- a step

-- the power of wheel k, whose control is x: x times the body's rate about the wheel's axis, as in a forward run
abbrev pub power_at : List Float → List Float → ℕ → Float → Float
power_at axes w k x = mul binary64 x (dot3 w (axis_at axes k))

-- the powers of the first n controls u at the rate w
unfoldable pub powers : List Float → ℕ → List Float → List Float → List Float
powers axes n u w = stored (power_at axes w) u n

-- the powers of step k, at the rate in the middle of the step
unfoldable pub powers_of : Reference → List Float → ℕ → List Float
powers_of r u k = powers r.axes r.count u (rate_at r (mid_fraction k r.steps))

unfoldable pub powers_fit : Reference → List Float → ℕ → Bool
powers_fit r u k = within (powers_of r u k) r.power_limits r.count

-- 13, where there are wheels
unfoldable pub check_powers : Reference → List Float → ℕ → Fate
check_powers r u k = cond r.wheels (cond (powers_fit r u k) going (Err (refusal 13 k))) going

-- 29 and 17, then 13, at step k
unfoldable pub check_controls : Reference → List Float → ℕ → Fate
check_controls r u k =
    cond (within u r.limits r.count) (cond (in_box (body_vector r.axes r.count u) r.torque_limit) (check_powers r u k) (Err (refusal 17 k))) (Err (refusal 29 k))

abbrev pub check_step_by : Fate → Reference → ℕ → List Float → List Float → Fate
check_step_by (Err why) r k a b = Err why
check_step_by (Ok _) r k a b = check_controls r (controls r k a b) k

-- the sample at its end, then its controls
unfoldable pub check_step : Reference → ℕ → Sample → Sample → Fate
check_step r k last next = check_step_by (check_sample r next (k + 1)) r k last.h next.h

-- ---- the start

-- 15, 14 and 30: sample 0 has no rate, the attitude q0 and the start momenta
unfoldable pub check_start : Reference → Sample → Fate
check_start r s = cond (at_rest_value s.w) (cond (equal_attitudes s.q r.q0) (cond (equal s.h r.start r.count) going (Err (refusal 30 0))) (Err (refusal 14 0))) (Err (refusal 15 0))

abbrev pub check_first_by : Fate → Reference → Sample → Fate
check_first_by (Err why) r s = Err why
check_first_by (Ok _) r s = check_start r s

unfoldable pub check_first : Reference → Sample → Fate
check_first r s = check_first_by (check_sample r s 0) r s

-- ---- all samples and steps

-- sample k of the reference
unfoldable pub sample_of : Reference → ℕ → Sample
sample_of r k = sample_at r (fraction k r.steps)

-- the controls of step k
unfoldable pub controls_of : Reference → ℕ → List Float
controls_of r k = controls r k (sample_of r k).h (sample_of r (k + 1)).h

-- how it ended after n samples
abbrev pub verdict : Fate → ℕ → Verdict
verdict f n = record { fate = f; samples = n }

-- step k evaluates one sample more; the first refusal stays
abbrev pub step_turn_by : Fate → Reference → ℕ → ℕ → Verdict
step_turn_by (Ok _) r k n = verdict (check_step r k (sample_of r k) (sample_of r (k + 1))) (n + 1)
step_turn_by (Err why) r k n = verdict (Err why) n

abbrev pub step_turn : Reference → ℕ → Verdict → Verdict
step_turn r k v = step_turn_by v.fate r k v.samples

unfoldable pub check_steps : Reference → Verdict
check_steps r = iter (step_turn r) (verdict going 1) r.steps

-- ---- the end

abbrev pub check_attitude_by : Option (Float × Float × Float) → ℕ → Fate
check_attitude_by None n = Err (refusal 11 n)
check_attitude_by (Some (x, y, z)) n = cond (le (norm3 (x ∷ y ∷ z ∷ [])) tolerance) going (Err (refusal 14 n))

-- 14: the attitude q is further than 1e-9 from qf
unfoldable pub check_attitude : Reference → Quat → Fate
check_attitude r q = check_attitude_by (rotation_vector q r.qf) r.steps

-- 15 before that: the last sample has a rate
unfoldable pub check_end : Reference → Fate
check_end r = cond (at_rest_value (sample_of r r.steps).w) (check_attitude r (sample_of r r.steps).q) (Err (refusal 15 r.steps))

abbrev pub check_rest_by : Fate → Reference → ℕ → Verdict
check_rest_by (Err why) r n = verdict (Err why) n
check_rest_by (Ok _) r n = verdict (check_end r) (n + 1)

-- the steps, then the end, for which the last sample is evaluated again
unfoldable pub check_rest : Reference → Verdict
check_rest r = check_rest_by (check_steps r).fate r (check_steps r).samples

-- ---- the reference

abbrev pub check_samples_by : Fate → Reference → Verdict
check_samples_by (Err why) r = verdict (Err why) 1
check_samples_by (Ok _) r = check_rest r

-- sample 0, every step with the sample at its end, the end
unfoldable pub check_samples : Reference → Verdict
check_samples r = check_samples_by (check_first r (sample_of r 0)) r

-- the duration is finite and above 0, and there is a step
unfoldable pub times_fit : Reference → Bool
times_fit r = is_positive_value r.duration && ltb 0 r.steps

-- THE CHECKS OF A REFERENCE: 10 for its times, then every sample and step
unfoldable pub verify : Reference → Verdict
verify r = cond (times_fit r) (check_samples r) (verdict (Err (refusal 10 0)) 0)
