use Rattle.std.proofs.Common.{refl}
use Rattle.sample_lists.specs.Lists.{numbers}
use Rattle.sample_lists.proofs.stages.numbers.Goals as goal

pub returns : goal.returns
unfolding numbers
returns c = refl
