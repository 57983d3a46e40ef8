use Rattle.std.proofs.Common.{arith}
use Rattle.std.proofs.lemmas.Bool.Decides.{nat_tests}
use Rattle.region_text.specs.Words.{clipped}
use Rattle.region_text.proofs.words.clipped.Goals as goal

pub returns : goal.returns
unfolding clipped
returns c = grind (arith, nat_tests)
