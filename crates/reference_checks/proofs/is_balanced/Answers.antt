use Rattle.reference_checks.proofs.is_balanced.Goals as goal
use lib.Ieee as Ieee
use Rattle.reference_checks.specs.Checks as Checks

pub returns : goal.returns
unfolding Checks.is_balanced Ieee.of_bits
returns c = rw (c.norm3-2.ensures, c.norm3.ensures, c.imbalance.ensures)
