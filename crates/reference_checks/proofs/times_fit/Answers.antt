use Rattle.reference_checks.proofs.times_fit.Goals as goal
use Rattle.reference_checks.specs.Checks as Checks

pub returns : goal.returns
unfolding Checks.times_fit
returns c = rw c.is_positive.ensures
