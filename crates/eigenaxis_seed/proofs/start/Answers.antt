-- `start` meets its contract: each field is the definition's, the body momentum by `body_momentum`.
use lib.Ieee as Ieee
use Rattle.eigenaxis_seed.specs.Seeds as Seeds
use Rattle.eigenaxis_seed.proofs.start.Goals as goal

pub returns : goal.returns
unfolding Seeds.start Ieee.of_bits
returns c = rw c.body_momentum-h.ensures
