-- `geom::still` meets its contract: each test is the definition's. Assumes nothing.
use borrow.Author.Rules.{rules}
use Rattle.geom.proofs.still.Statement.{statement}
use Rattle.geom.proofs.still.Tie as tie

returns : tie.Need-returns
returns c = rw (c.abs.ensures, c.is_finite.ensures)

pub still_spec : {M : Type 1} → statement M
still_spec = tie.close (tie.spec (λ c κs. search rules) (λ c κs. search rules) returns)
