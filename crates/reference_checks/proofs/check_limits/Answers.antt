use Rattle.std.proofs.Common.{sym, ◌∙◌}
use Rattle.reference_checks.proofs.check_limits.Goals as goal
use Rattle.reference_checks.specs.Checks as Checks

pub returns-then-not-rate_fits : goal.returns-then-not-rate_fits
unfolding Checks.check_limits
returns-then-not-rate_fits c = rw ((sym c.rate_fits.ensures ∙ c.if-not-rate_fits.true))

pub returns : goal.returns
unfolding Checks.check_limits
returns c = rw ((sym c.rate_fits.ensures ∙ c.if-not-rate_fits.false)) c.check_wheels.ensures
