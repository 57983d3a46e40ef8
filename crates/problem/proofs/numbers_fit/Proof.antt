-- `problem::numbers_fit` meets its contract: each test is the definition's. Assumes nothing.
use borrow.Author.Rules.{rules}
use Rattle.problem.specs.Problems as Problems
use Rattle.problem.proofs.numbers_fit.Statement.{statement}
use Rattle.problem.proofs.numbers_fit.Tie as tie

returns : tie.Need-returns
unfolding Problems.numbers_fit
returns c =
    let limits-fit = c.limits_fit in
    rw (c.tolerance_fits-2.ensures, c.tolerance_fits.ensures, c.weights_fit.ensures, c.limit_fits.ensures, limits-fit.ensures)

pub numbers_fit_spec : {M : Type 1} → statement M
numbers_fit_spec =
    tie.close
    (tie.spec
    (λ c κs. search rules) (λ c κs. search rules) (λ c κs. search rules) (λ c κs. search rules) (λ c κs. search rules) returns)
