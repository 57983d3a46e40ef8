use Rattle.std.proofs.Common.{sym, ◌∙◌}
use Rattle.reference_checks.proofs.check_powers.Goals as goal
use borrow.Author.Tests.{not-true, not-false}
use Rattle.reference_checks.specs.CaseLaws.{powers_checked, powers_skipped}

pub returns-then-not-r : goal.returns-then-not-r
returns-then-not-r c = powers_skipped _ _ _ (not-true c.args.r.wheels c.if-not-r.true)

pub returns-then-not-powers_fit : goal.returns-then-not-powers_fit
returns-then-not-powers_fit c = rw ((sym c.powers_fit.ensures ∙ c.if-not-powers_fit.true)) at (powers_checked c.args.r c.args.u c.args.k (not-false c.args.r.wheels c.if-not-r.false))

pub returns : goal.returns
returns c = rw ((sym c.powers_fit.ensures ∙ c.if-not-powers_fit.false)) at (powers_checked c.args.r c.args.u c.args.k (not-false c.args.r.wheels c.if-not-r.false))
