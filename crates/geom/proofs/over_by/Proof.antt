-- `geom::over_by` meets its contract: each step is its definition's. Assumes nothing.
use borrow.Author.Rules.{rules}
use Rattle.geom.proofs.over_by.Statement.{statement}
use Rattle.geom.proofs.over_by.Tie as tie

returns : tie.Need-returns
returns c = rw (c.max.ensures, c.abs.ensures)

pub over_by_spec : {M : Type 1} → statement M
over_by_spec = tie.close (tie.spec (λ c κs. search rules) (λ c κs. search rules) returns)
