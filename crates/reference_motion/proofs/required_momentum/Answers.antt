use Rattle.reference_motion.proofs.required_momentum.Goals as goal
use Rattle.reference_motion.specs.Momenta as Momenta

pub returns : goal.returns
unfolding Momenta.required_momentum
returns c = rw (c.sub3.ensures, c.apply_tensor.ensures, c.tensor.ensures, c.rotate_to_body.ensures)
