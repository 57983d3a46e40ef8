use Rattle.reference_checks.proofs.imbalance.Goals as goal
use Rattle.reference_checks.specs.Checks as Checks

pub returns : goal.returns
unfolding Checks.imbalance
returns c = rw (c.sub3.ensures, c.required_momentum.ensures, c.body_vector-held.ensures)
