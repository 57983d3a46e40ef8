-- `geom::scaled_adjugate` meets its contract: each step is its definition's. Assumes nothing.
use borrow.Author.Rules.{rules}
use Rattle.geom.specs.Tensors.{scaled_adjugate}
use Rattle.geom.proofs.scaled_adjugate.Statement.{statement}
use Rattle.geom.proofs.scaled_adjugate.Tie as tie

returns : tie.Need-returns
unfolding scaled_adjugate
returns c =
    rw (c.flat.ensures, c.scale3-3.ensures, c.adjugate2.ensures, c.scale3-2.ensures, c.adjugate1.ensures, c.scale3.ensures, c.adjugate0.ensures)

pub scaled_adjugate_spec : {M : Type 1} → statement M
scaled_adjugate_spec =
    tie.close
    (tie.spec
    (λ c κs. search rules) (λ c κs. search rules) (λ c κs. search rules) (λ c κs. search rules) (λ c κs. search rules) (λ c κs. search rules)
    (λ c κs. search rules) returns)
