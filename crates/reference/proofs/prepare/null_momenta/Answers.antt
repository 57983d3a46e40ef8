use Rattle.reference.proofs.prepare.null_momenta.Goals as goal
use lib.Ieee as Ieee
use Rattle.reference.specs.Prepare as Prepare

pub returns : goal.returns
unfolding Prepare.null_momenta_value Ieee.of_bits
returns c = rw (c.subtract_scaled.ensures, c.allocate-row_part.ensures)
