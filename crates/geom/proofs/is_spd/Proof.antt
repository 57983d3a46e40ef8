-- `geom::is_spd` meets its contract: each test is the definition's. Assumes nothing.
use borrow.Author.Rules.{rules}
use Rattle.geom.specs.Tensors.{is_spd}
use Rattle.geom.proofs.is_spd.Statement.{statement}
use Rattle.geom.proofs.is_spd.Tie as tie

returns : tie.Need-returns
unfolding is_spd
returns c = rw (c.definite.ensures, c.symmetric.ensures)

pub is_spd_spec : {M : Type 1} → statement M
is_spd_spec = tie.close (tie.spec (λ c κs. search rules) (λ c κs. search rules) returns)
