-- `geom::rest` meets its contract: each test is the definition's. Assumes nothing.
use borrow.Author.Rules.{rules}
use Rattle.geom.proofs.rest.Statement.{statement}
use Rattle.geom.proofs.rest.Tie as tie

returns : tie.Need-returns
returns c = rw (c.still-3.ensures, c.still-2.ensures, c.still.ensures)

pub rest_spec : {M : Type 1} → statement M
rest_spec =
    tie.close
    (tie.spec
    (λ c. search rules) (λ c κs. search rules) (λ c. search rules) (λ c κs. search rules) (λ c. search rules) (λ c κs. search rules) returns)
