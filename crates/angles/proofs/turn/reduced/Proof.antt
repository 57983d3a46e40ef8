-- `angles::turn::reduced` meets its contract: `magnitude` gives the size, `place` its turn, and `mirrored` the argument's turn from both.
use Rattle.std.proofs.Common.{rules}
use Rattle.angles.proofs.turn.reduced.Statement.{statement}
use Rattle.angles.proofs.turn.reduced.Tie as tie

returns : tie.Need-returns
returns c = c.mirrored.ensures _ _ c.magnitude.ensures.2 c.place-t.ensures

pub reduced_spec : {M : Type 1} → statement M
reduced_spec = tie.close (tie.spec (λ c κs. search rules) (λ c κs. search rules) (λ c κs. search rules) returns)
