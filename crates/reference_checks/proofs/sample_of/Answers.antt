use Rattle.reference_checks.proofs.sample_of.Goals as goal
use Rattle.reference_checks.specs.Checks as Checks

pub returns : goal.returns
unfolding Checks.sample_of
returns c = rw (c.sample_at.ensures, c.fraction.ensures)
