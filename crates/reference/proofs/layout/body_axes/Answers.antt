use Rattle.reference.proofs.layout.body_axes.Goals as goal
use mathlib.Core.Path.{refl}
use lib.Ieee as Ieee
use Rattle.reference.specs.Layouts as Layouts

pub returns : goal.returns
unfolding Layouts.body_axes Ieee.of_bits
returns c = refl
