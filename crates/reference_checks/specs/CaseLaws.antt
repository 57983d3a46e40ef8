-- With wheels and without, and a sample that goes on: each case of the definitions that ask. Assumes nothing.
use Rattle.std.specs.Prelude.{ℕ, ◌≡◌, true, false, cond, List, Float, Err}
use Rattle.std.proofs.Common.{sym}
use Rattle.std.proofs.Math.Path.{ap}
use Rattle.reference_motion.specs.CaseLaws.{cond_yes, cond_no}
use Rattle.reference_motion.specs.declared.Reference.{Reference}
use Rattle.reference_motion.specs.declared.Sample.{Sample}
use Rattle.reference_checks.specs.Checks as Checks
use Rattle.common.specs.Refusals.{Fate, refusal, going}

module _ (r : Reference) where
  pub wheels_checked_law : (s : Sample) (k : ℕ) → r.wheels ≡ true → Checks.check_momenta r s k ≡ Checks.check_wheels r s k
  unfolding Checks.check_wheels
  wheels_checked_law s k e = cond_yes r.wheels _ _ e

  pub wheels_skipped : (s : Sample) (k : ℕ) → r.wheels ≡ false → going ≡ Checks.check_wheels r s k
  unfolding Checks.check_wheels
  wheels_skipped s k e = cond_no r.wheels _ _ e

  pub powers_checked : (u : List Float) (k : ℕ) → r.wheels ≡ true → cond (Checks.powers_fit r u k) going (Err (refusal 13 k)) ≡ Checks.check_powers r u k
  unfolding Checks.check_powers
  powers_checked u k e = cond_yes r.wheels _ _ e

  pub powers_skipped : (u : List Float) (k : ℕ) → r.wheels ≡ false → going ≡ Checks.check_powers r u k
  unfolding Checks.check_powers
  powers_skipped u k e = cond_no r.wheels _ _ e

  -- a sample whose sine and cosine are in range
  pub sample_goes : (s : Sample) (k : ℕ) → s.fate ≡ going → Checks.check_limits r s k ≡ Checks.check_sample r s k
  unfolding Checks.check_sample
  sample_goes s k e = ap (λ (f : Fate). Checks.check_sample_by f r s k) (sym e)
