-- `pace` meets its contract: `height` and `area` give the definition's whole numbers, and the operations follow in its order.
use lib.Ieee as Ieee
use Rattle.eigenaxis_seed.specs.Shapes as Shapes
use Rattle.eigenaxis_seed.proofs.pace.Goals as goal

pub returns : goal.returns
unfolding Shapes.pace Ieee.of_bits
returns c = rw (c.height-h.ensures, c.area-a.ensures)
