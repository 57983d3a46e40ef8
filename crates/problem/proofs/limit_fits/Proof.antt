-- `problem::limit_fits` meets its contract: each way out is a case of the definition, told by the tests on the way. Assumes nothing.
use borrow.Author.Rules.{rules}
use Rattle.problem.proofs.limit_fits.Statement.{statement}
use Rattle.problem.proofs.limit_fits.Tie as tie

returns : tie.Need-returns-in-None
returns c = rw c.in-None.is

returns_2 : tie.Need-returns-in-Some
returns_2 c = rw c.in-Some.is c.is_positive.ensures

pub limit_fits_spec : {M : Type 1} → statement M
limit_fits_spec = tie.close (tie.spec (λ c. search rules) (λ c. search rules) (λ c κs. search rules) returns returns_2)
