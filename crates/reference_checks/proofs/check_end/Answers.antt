use Rattle.std.proofs.Common.{sym, ◌∙◌}
use Rattle.reference_checks.proofs.check_end.Goals as goal
use Rattle.reference_checks.specs.Checks as Checks

pub returns-then-not-at_rest : goal.returns-then-not-at_rest
unfolding Checks.check_end
returns-then-not-at_rest c = rw (← c.sample_of-last.ensures, (sym c.at_rest.ensures ∙ c.if-not-at_rest.true))

pub returns : goal.returns
unfolding Checks.check_end
returns c = rw (← c.sample_of-last.ensures, (sym c.at_rest.ensures ∙ c.if-not-at_rest.false)) c.check_attitude.ensures
