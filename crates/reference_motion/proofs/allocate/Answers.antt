use Rattle.reference_motion.proofs.allocate.Goals as goal
use Rattle.reference_motion.specs.Momenta as Momenta

pub returns : goal.returns
unfolding Momenta.allocate
returns c = rw (c.add_projections.ensures, c.apply_tensor.ensures, c.tensor.ensures)
