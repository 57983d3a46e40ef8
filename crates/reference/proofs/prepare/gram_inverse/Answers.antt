use Rattle.reference.proofs.prepare.gram_inverse.Goals as goal
use Rattle.reference.specs.Prepare as Prepare

pub returns : goal.returns
unfolding Prepare.gram_inverse
returns c = rw (c.invert3.ensures, c.tensor.ensures, c.gram_matrix.ensures)
