-- `angles::turn::magnitude` meets its contract: for either sign a law says that the size is in range and that it scales as x does.
use Rattle.angles.proofs.Regions.{above, under_zero}
use Rattle.angles.proofs.turn.magnitude.Statement.{statement}
use Rattle.angles.proofs.turn.magnitude.Tie as tie

returns : tie.Need-returns-then-x
returns c = let w = under_zero _ c.requires c.if-x.true in (w.0.0, w.0.1, rw c.if-x.true w.1)

returns_2 : tie.Need-returns-else-x
returns_2 c = let w = above _ c.requires c.if-x.false in (w.0.0, w.0.1, rw c.if-x.false w.1)

pub magnitude_spec : {M : Type 1} → statement M
magnitude_spec = tie.close (tie.spec returns returns_2)
