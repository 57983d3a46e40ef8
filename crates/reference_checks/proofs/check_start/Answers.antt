use Rattle.std.proofs.Common.{sym, ◌∙◌}
use Rattle.reference_checks.proofs.check_start.Goals as goal
use Rattle.reference_checks.specs.Checks as Checks

pub returns-then-not-at_rest : goal.returns-then-not-at_rest
unfolding Checks.check_start
returns-then-not-at_rest c = rw ((sym c.at_rest.ensures ∙ c.if-not-at_rest.true))

pub returns-then-not-equal_attitudes : goal.returns-then-not-equal_attitudes
unfolding Checks.check_start
returns-then-not-equal_attitudes c = rw ((sym c.at_rest.ensures ∙ c.if-not-at_rest.false), (sym c.equal_attitudes.ensures ∙ c.if-not-equal_attitudes.true))

pub returns-then-not-equal : goal.returns-then-not-equal
unfolding Checks.check_start
returns-then-not-equal c = rw ((sym c.at_rest.ensures ∙ c.if-not-at_rest.false), (sym c.equal_attitudes.ensures ∙ c.if-not-equal_attitudes.false), (sym c.equal.ensures ∙ c.if-not-equal.true))

pub returns : goal.returns
unfolding Checks.check_start
returns c = rw ((sym c.at_rest.ensures ∙ c.if-not-at_rest.false), (sym c.equal_attitudes.ensures ∙ c.if-not-equal_attitudes.false), (sym c.equal.ensures ∙ c.if-not-equal.false))
