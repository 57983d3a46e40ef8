use Rattle.std.proofs.Common.{refl}
use Rattle.scvx.specs.Search as Search
use Rattle.scvx.proofs.columns.numbers.Goals as goal

pub returns : goal.returns
unfolding Search.numbers
returns c = rw c.control_dim.ensures refl
