use Rattle.reference_motion.proofs.wheel_torques.Goals as goal
use mathlib.Core.Path.{refl}
use Rattle.reference_motion.specs.Momenta as Momenta

pub returns : goal.returns
unfolding Momenta.wheel_torques_value
returns c = refl
