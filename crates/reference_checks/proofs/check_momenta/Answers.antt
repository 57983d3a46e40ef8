use Rattle.std.proofs.Common.{sym, ◌∙◌}
use Rattle.reference_checks.proofs.check_momenta.Goals as goal
use Rattle.reference_checks.specs.Checks as Checks

pub returns-then-not-within : goal.returns-then-not-within
unfolding Checks.check_momenta
returns-then-not-within c = rw ((sym c.within.ensures ∙ c.if-not-within.true))

pub returns-then-not-is_balanced : goal.returns-then-not-is_balanced
unfolding Checks.check_momenta
returns-then-not-is_balanced c = rw ((sym c.within.ensures ∙ c.if-not-within.false), (sym c.is_balanced.ensures ∙ c.if-not-is_balanced.true))

pub returns : goal.returns
unfolding Checks.check_momenta
returns c = rw ((sym c.within.ensures ∙ c.if-not-within.false), (sym c.is_balanced.ensures ∙ c.if-not-is_balanced.false))
