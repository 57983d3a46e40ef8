use Rattle.std.proofs.Common.{sym, ◌∙◌}
use Rattle.reference_checks.proofs.check_controls.Goals as goal
use Rattle.reference_checks.specs.Checks as Checks

pub returns-then-not-within : goal.returns-then-not-within
unfolding Checks.check_controls
returns-then-not-within c = rw ((sym c.within.ensures ∙ c.if-not-within.true))

pub returns-then-not-in_box : goal.returns-then-not-in_box
unfolding Checks.check_controls
returns-then-not-in_box c = rw ((sym c.within.ensures ∙ c.if-not-within.false), ← c.body_vector.ensures, (sym c.in_box.ensures ∙ c.if-not-in_box.true))

pub returns : goal.returns
unfolding Checks.check_controls
returns c = rw ((sym c.within.ensures ∙ c.if-not-within.false), ← c.body_vector.ensures, (sym c.in_box.ensures ∙ c.if-not-in_box.false)) c.check_powers.ensures
