-- `geom::apart` meets its contract: each step is its definition's. Assumes nothing.
use borrow.Author.Rules.{rules}
use lib.Ieee.{of_bits}
use Rattle.geom.proofs.apart.Statement.{statement}
use Rattle.geom.proofs.apart.Tie as tie

returns : tie.Need-returns
unfolding of_bits
returns c = rw c.abs.ensures

pub apart_spec : {M : Type 1} → statement M
apart_spec = tie.close (tie.spec (λ c κs. search rules) returns)
