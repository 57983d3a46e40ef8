use lib.Ieee as Ieee
use Rattle.actuators.specs.Maps as Maps
use Rattle.actuators.proofs.unfilled.Goals as goal

pub returns : goal.returns
unfolding Maps.unfilled Ieee.of_bits
returns c = mathlib.Core.Path.refl
