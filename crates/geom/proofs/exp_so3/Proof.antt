-- `geom::exp_so3` meets its contract: each step is its definition's. Assumes nothing.
use borrow.Author.Rules.{rules}
use Rattle.geom.proofs.exp_so3.Statement.{statement}
use Rattle.geom.proofs.exp_so3.Tie as tie

returns : tie.Need-returns
returns c = rw (c.exp_at.ensures, c.norm3.ensures)

pub exp_so3_spec : {M : Type 1} → statement M
exp_so3_spec = tie.close (tie.spec (λ c κs. search rules) (λ c κs. search rules) returns)
