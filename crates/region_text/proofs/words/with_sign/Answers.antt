use Rattle.std.proofs.Common.{to_z-of_z}
use Rattle.region_text.specs.Words.{with_sign}
use Rattle.region_text.specs.TextLaws.{word_is, below_fits}
use Rattle.region_text.proofs.words.with_sign.Goals as goal

pub returns-then-below : goal.returns-then-below
unfolding with_sign
returns-then-below c = rw (c.if-below.true, word_is c.args.k c.requires, to_z-of_z (below_fits c.args.k c.requires))

pub returns-else-below : goal.returns-else-below
unfolding with_sign
returns-else-below c = rw (c.if-below.false, word_is c.args.k c.requires)
