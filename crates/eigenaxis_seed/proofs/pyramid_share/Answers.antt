-- `pyramid_share` meets its contract: product, inverse, scaled torque: each call is the definition's, in its order.
use lib.Ieee as Ieee
use Rattle.eigenaxis_seed.specs.Seeds as Seeds
use Rattle.eigenaxis_seed.proofs.pyramid_share.Goals as goal

pub returns : goal.returns
unfolding Seeds.pyramid_share Ieee.of_bits Ieee.neg
returns c =
    rw (c.apply_tensor.ensures, c.scale3.ensures, c.tensor.ensures, c.unwrap_or-m.ensures, c.invert3.ensures, c.mixed.ensures)
