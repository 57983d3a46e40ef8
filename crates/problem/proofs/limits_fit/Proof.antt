-- `problem::limits_fit` meets its contract: each test is the definition's. Assumes nothing.
use borrow.Author.Rules.{rules}
use Rattle.problem.proofs.limits_fit.Statement.{statement}
use Rattle.problem.proofs.limits_fit.Tie as tie

returns : tie.Need-returns
returns c = rw (c.is_positive-3.ensures, c.is_positive-2.ensures, c.is_positive.ensures)

pub limits_fit_spec : {M : Type 1} → statement M
limits_fit_spec =
    tie.close
    (tie.spec
    (λ c. search rules) (λ c κs. search rules) (λ c. search rules) (λ c κs. search rules) (λ c. search rules) (λ c κs. search rules) returns)
