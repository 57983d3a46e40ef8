-- `pyramid_by` meets its contract: share, Gram matrix, scaling: each call is the definition's, in its order.
use Rattle.eigenaxis_seed.specs.Seeds as Seeds
use Rattle.eigenaxis_seed.proofs.pyramid_by.Goals as goal

pub returns : goal.returns
unfolding Seeds.pyramid_by
returns c = rw (c.scale3.ensures, c.apply_tensor.ensures, c.gram.ensures, c.pyramid_share-y.ensures)
