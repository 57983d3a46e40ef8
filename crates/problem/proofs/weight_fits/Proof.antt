-- `problem::weight_fits` meets its contract: each test is the definition's. Assumes nothing.
use borrow.Author.Rules.{rules}
use lib.Ieee as Ieee
use Rattle.problem.proofs.weight_fits.Statement.{statement}
use Rattle.problem.proofs.weight_fits.Tie as tie

returns : tie.Need-returns
unfolding Ieee.of_bits
returns c = rw c.is_finite.ensures

pub weight_fits_spec : {M : Type 1} → statement M
weight_fits_spec = tie.close (tie.spec (λ c κs. search rules) returns)
