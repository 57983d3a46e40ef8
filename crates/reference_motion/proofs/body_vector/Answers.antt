use Rattle.reference_motion.proofs.body_vector.Goals as goal
use lib.Ieee as Ieee
use Rattle.reference_motion.specs.Momenta as Momenta

pub returns : goal.returns
unfolding Momenta.body_vector Ieee.of_bits
returns c = c.axis_sum.ensures
