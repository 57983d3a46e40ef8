-- `geom::norm3` meets its contract: each step is its definition's. Assumes nothing.
use borrow.Author.Rules.{rules}
use Rattle.geom.specs.Quats.{norm3}
use Rattle.geom.proofs.norm3.Statement.{statement}
use Rattle.geom.proofs.norm3.Tie as tie

returns : tie.Need-returns
unfolding norm3
returns c = rw (c.sqrt.ensures, c.dot3.ensures)

pub norm3_spec : {M : Type 1} → statement M
norm3_spec = tie.close (tie.spec (λ c κs. search rules) (λ c κs. search rules) returns)
