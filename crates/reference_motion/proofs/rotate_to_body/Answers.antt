use Rattle.reference_motion.proofs.rotate_to_body.Goals as goal
use lib.Ieee as Ieee
use Rattle.reference_motion.specs.Momenta as Momenta

pub returns : goal.returns
unfolding Momenta.rotate_to_body Ieee.of_bits
returns c = rw (c.add3.ensures, c.cross-2.ensures, c.sub3.ensures, c.scale3.ensures, c.scale3-t.ensures, c.cross.ensures)
