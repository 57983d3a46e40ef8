-- `problem::weights_fit` meets its contract: each test is the definition's. Assumes nothing.
use borrow.Author.Rules.{rules}
use Rattle.problem.specs.Problems as Problems
use Rattle.problem.proofs.weights_fit.Statement.{statement}
use Rattle.problem.proofs.weights_fit.Tie as tie

returns : tie.Need-returns
unfolding Problems.weights_fit
returns c =
    let weight-fits = c.weight_fits in
    let weight-fits2 = c.weight_fits-2 in
    rw (c.weight_fits-6.ensures, c.weight_fits-5.ensures, c.weight_fits-4.ensures, c.weight_fits-3.ensures, weight-fits2.ensures, weight-fits.ensures)

pub weights_fit_spec : {M : Type 1} → statement M
weights_fit_spec =
    tie.close
    (tie.spec
    (λ c κs. search rules) (λ c κs. search rules) (λ c κs. search rules) (λ c κs. search rules) (λ c κs. search rules) (λ c κs. search rules) returns)
