use Rattle.reference_checks.proofs.check_wheels.Goals as goal
use mathlib.Core.Path.{◌∙◌}
use borrow.Author.Tests.{not-true, not-false}
use Rattle.reference_checks.specs.CaseLaws.{wheels_checked_law, wheels_skipped}

pub returns-then-not-r : goal.returns-then-not-r
returns-then-not-r c = wheels_skipped _ _ _ (not-true c.args.r.wheels c.if-not-r.true)

pub returns : goal.returns
returns c = c.check_momenta.ensures ∙ wheels_checked_law _ _ _ (not-false c.args.r.wheels c.if-not-r.false)
