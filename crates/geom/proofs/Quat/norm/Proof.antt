-- `geom::Quat::norm` meets its contract: each step is its definition's. Assumes nothing.
use borrow.Author.Rules.{rules}
use Rattle.geom.specs.Quats.{norm_q}
use Rattle.geom.proofs.Quat.norm.Statement.{statement}
use Rattle.geom.proofs.Quat.norm.Tie as tie

returns : tie.Need-returns
unfolding norm_q
returns c = rw (c.sqrt_near_one.ensures, c.dot.ensures)

pub norm_spec : {M : Type 1} → statement M
norm_spec = tie.close (tie.spec (λ c κs. search rules) (λ c κs. search rules) returns)
