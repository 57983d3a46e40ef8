-- `angles::is_tiny` meets its contract: two tests, one after the other.
use Rattle.angles.specs.Angles.{tiny}
use Rattle.angles.proofs.Tests.{and_yes, and_no}
use Rattle.angles.proofs.is_tiny.Statement.{statement}
use Rattle.angles.proofs.is_tiny.Tie as tie

returns : tie.Need-returns-then-x
unfolding tiny
returns c = and_yes _ _ c.if-x.true

returns_2 : tie.Need-returns-else-x
unfolding tiny
returns_2 c = and_no _ _ c.if-x.false

pub is_tiny_spec : {M : Type 1} → statement M
is_tiny_spec = tie.close (tie.spec returns returns_2)
