-- `geom::definite` meets its contract: each test is the definition's. Assumes nothing.
use borrow.Author.Rules.{rules}
use Rattle.geom.proofs.definite.Statement.{statement}
use Rattle.geom.proofs.definite.Tie as tie

returns : tie.Need-returns
returns c =
    let is_positive = c.is_positive in
    rw (c.is_positive-3.ensures, c.det3.ensures, c.is_positive-2.ensures, is_positive.ensures)

pub definite_spec : {M : Type 1} → statement M
definite_spec =
    tie.close
    (tie.spec
    (λ c. search rules) (λ c. search rules) (λ c κs. search rules) (λ c. search rules) (λ c. search rules) (λ c. search rules) (λ c. search rules)
    (λ c. search rules) (λ c. search rules) (λ c. search rules) (λ c. search rules) (λ c κs. search rules) (λ c κs. search rules)
    (λ c κs. search rules) returns)
