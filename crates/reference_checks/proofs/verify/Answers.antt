use Rattle.reference_checks.proofs.verify.Goals as goal
use native.Mathlib.Omega.{arith}
use mathlib.Core.Path.{◌≡◌, sym, ap, ◌∙◌}
use Rattle.reference_checks.specs.Checks as Checks
use Rattle.reference_checks.specs.declared.Verdict.{Verdict}
use Rattle.reference_checks.specs.PromisesKept.{never, verified}

pub returns-then-not-times_fit : goal.returns-then-not-times_fit
unfolding Checks.verify
returns-then-not-times_fit c = record { is = rw ((sym c.times_fit.ensures ∙ c.if-not-times_fit.true)); few = omega arith; promised = λ g. never g }

pub returns : goal.returns
unfolding Checks.verify
returns c = let e : c.check_samples.result ≡ Checks.verify c.args.r = rw ((sym c.times_fit.ensures ∙ c.if-not-times_fit.false)) c.check_samples.ensures.is in record { is = e; few = c.check_samples.ensures.few; promised = λ g. verified _ (ap (λ (v : Verdict). v.fate) (sym e) ∙ g) }
