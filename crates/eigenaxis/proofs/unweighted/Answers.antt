-- `unweighted` meets its contract: each field is the problem's own but for the weights, which are 0 as in the definition.
use lib.Ieee as Ieee
use Rattle.eigenaxis.specs.Ladders as Ladders
use Rattle.eigenaxis.proofs.unweighted.Goals as goal

pub returns : goal.returns
unfolding Ladders.unweighted Ieee.of_bits
returns c = mathlib.Core.Path.refl
