use Rattle.reference.specs.Prepare.{reference_of}
use Rattle.reference.proofs.prepare.reference_of.Goals as goal

pub returns : goal.returns
unfolding reference_of
returns c = rw (c.null_momenta-null_momenta.ensures, c.total_momentum-total.ensures)
