use Rattle.reference.proofs.layout.thruster_layout.Goals as goal
use mathlib.Core.Path.{refl}
use lib.Ieee as Ieee
use Rattle.reference.specs.Layouts as Layouts

pub returns : goal.returns
unfolding Layouts.thruster_layout Ieee.of_bits
returns c = refl
