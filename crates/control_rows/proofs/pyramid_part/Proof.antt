-- `control_rows::pyramid_part` meets its contract: each step is its definition's. Assumes nothing.
use borrow.Author.Rules.{rules}
use Rattle.control_rows.proofs.pyramid_part.Statement.{statement}
use Rattle.control_rows.proofs.pyramid_part.Tie as tie

returns : tie.Need-returns
returns c = rw (c.add3.ensures, c.scale3.ensures)

pub pyramid_part_spec : {M : Type 1} → statement M
pyramid_part_spec =
    tie.close
    (tie.spec
    (λ c. search rules) (λ c. search rules) (λ c. search rules) (λ c. search rules) (λ c. search rules) (λ c. search rules) (λ c. search rules)
    (λ c. search rules) (λ c. search rules) (λ c. search rules) (λ c. search rules) (λ c. search rules) (λ c. search rules) (λ c. search rules)
    (λ c. search rules) (λ c. search rules) (λ c κs. search rules) (λ c κs. search rules) returns)
