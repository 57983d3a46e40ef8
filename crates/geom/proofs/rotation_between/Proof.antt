-- `geom::rotation_between` meets its contract: each call is its definition's. Assumes nothing.
use borrow.Author.Rules.{rules}
use Rattle.geom.proofs.rotation_between.Statement.{statement}
use Rattle.geom.proofs.rotation_between.Tie as tie

returns : tie.Need-returns
returns c = rw (c.log_so3.ensures, c.mul.ensures, c.conjugate.ensures)

pub rotation_between_spec : {M : Type 1} → statement M
rotation_between_spec = tie.close (tie.spec (λ c κs. search rules) (λ c κs. search rules) (λ c κs. search rules) returns)
