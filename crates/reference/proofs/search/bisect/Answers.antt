use Rattle.reference.proofs.search.bisect.Goals as goal
use mathlib.Core.Path.{◌∙◌}
use lib.Ieee as Ieee
use borrow.Author.Tests.{not-true, not-false}
use Rattle.reference.specs.SearchLaws.{bisect_stays, bisect_goes}

pub returns-then-not-s : goal.returns-then-not-s
unfolding Ieee.of_bits
returns-then-not-s c = bisect_stays _ _ _ (not-true c.args.s.found c.if-not-s.true)

pub returns : goal.returns
unfolding Ieee.of_bits
returns c = c.trial.ensures ∙ bisect_goes _ _ _ (not-false c.args.s.found c.if-not-s.false)
