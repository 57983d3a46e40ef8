use Rattle.reference_motion.proofs.subtract_scaled.Goals as goal
use mathlib.Core.Path.{refl}
use Rattle.reference_motion.specs.Momenta as Momenta

pub returns : goal.returns
unfolding Momenta.subtract_scaled
returns c = refl
