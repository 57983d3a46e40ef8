-- `aim` meets its contract: `pace` gives the factor and `scale3` the product, as in the definition.
use Rattle.eigenaxis_seed.proofs.aim.Goals as goal

pub returns : goal.returns
returns c = rw (c.scale3.ensures, c.pace.ensures)
