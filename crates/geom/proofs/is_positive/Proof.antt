-- `geom::is_positive` meets its contract: each test is the definition's. Assumes nothing.
use borrow.Author.Rules.{rules}
use lib.Ieee.{of_bits}
use Rattle.geom.proofs.is_positive.Statement.{statement}
use Rattle.geom.proofs.is_positive.Tie as tie

returns : tie.Need-returns
unfolding of_bits
returns c = rw c.is_finite.ensures

pub is_positive_spec : {M : Type 1} → statement M
is_positive_spec = tie.close (tie.spec (λ c κs. search rules) returns)
