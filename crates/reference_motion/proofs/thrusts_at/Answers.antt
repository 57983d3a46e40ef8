use Rattle.reference_motion.proofs.thrusts_at.Goals as goal
use lib.Ieee as Ieee
use Rattle.reference_motion.specs.Momenta as Momenta

pub returns : goal.returns
unfolding Momenta.thrusts_at Ieee.of_bits
returns c = rw (c.allocate.ensures, c.euler_lhs-torque.ensures, c.tensor.ensures, c.rate_at-w.ensures, c.acceleration_at-a.ensures)
