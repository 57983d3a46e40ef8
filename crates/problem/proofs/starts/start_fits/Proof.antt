-- `problem::starts::start_fits` meets its contract: each test is the definition's. Assumes nothing.
use borrow.Author.Rules.{rules}
use Rattle.problem.proofs.starts.start_fits.Statement.{statement}
use Rattle.problem.proofs.starts.start_fits.Tie as tie

returns : tie.Need-returns
returns c = rw (c.abs.ensures, c.is_finite.ensures)

pub start_fits_spec : {M : Type 1} → statement M
start_fits_spec = tie.close (tie.spec (λ c κs. search rules) (λ c κs. search rules) returns)
