-- `middle` meets its contract: the sum and the product are the definition's.
use mathlib.Core.Path.{refl}
use lib.Ieee as Ieee
use Rattle.eigenaxis.specs.Ladders as Ladders
use Rattle.eigenaxis.proofs.middle.Goals as goal

pub returns : goal.returns
unfolding Ladders.middle Ieee.of_bits
returns c = refl
