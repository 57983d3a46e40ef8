use Rattle.reference_checks.proofs.powers_fit.Goals as goal
use Rattle.reference_checks.specs.Checks as Checks

pub returns : goal.returns
unfolding Checks.powers_fit Checks.powers_of
returns c = rw (c.within.ensures, c.powers.ensures, c.rate_at-w.ensures, c.mid_fraction.ensures)
