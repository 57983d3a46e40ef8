-- `geom::symmetric` meets its contract: each test is the definition's. Assumes nothing.
use borrow.Author.Rules.{rules}
use Rattle.geom.proofs.symmetric.Statement.{statement}
use Rattle.geom.proofs.symmetric.Tie as tie

returns : tie.Need-returns
returns c =
    rw (c.apart-3.ensures, c.apart-2.ensures, c.apart.ensures)

pub symmetric_spec : {M : Type 1} → statement M
symmetric_spec =
    tie.close
    (tie.spec
    (λ c. search rules) (λ c. search rules) (λ c. search rules) (λ c. search rules) (λ c κs. search rules) (λ c. search rules) (λ c. search rules)
    (λ c. search rules) (λ c. search rules) (λ c κs. search rules) (λ c. search rules) (λ c. search rules) (λ c. search rules) (λ c. search rules)
    (λ c κs. search rules) returns)
