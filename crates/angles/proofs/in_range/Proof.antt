-- `angles::in_range` meets its contract: two tests, one after the other.
use Rattle.angles.specs.Angles.{in_range}
use Rattle.angles.proofs.Tests.{and_yes, and_no}
use Rattle.angles.proofs.in_range.Statement.{statement}
use Rattle.angles.proofs.in_range.Tie as tie

returns : tie.Need-returns-then-x
unfolding in_range
returns c = and_yes _ _ c.if-x.true

returns_2 : tie.Need-returns-else-x
unfolding in_range
returns_2 c = and_no _ _ c.if-x.false

pub in_range_spec : {M : Type 1} → statement M
in_range_spec = tie.close (tie.spec returns returns_2)
