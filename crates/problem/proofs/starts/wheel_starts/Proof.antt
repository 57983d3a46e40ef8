-- `problem::starts::wheel_starts` meets its contract: each test is the definition's. Assumes nothing.
use borrow.Author.Rules.{rules}
use Rattle.problem.specs.Starts.{wheel_starts}
use Rattle.problem.proofs.starts.wheel_starts.Statement.{statement}
use Rattle.problem.proofs.starts.wheel_starts.Tie as tie

returns : tie.Need-returns
unfolding wheel_starts
returns c = rw c.start_fits.ensures

pub wheel_starts_spec : {M : Type 1} → statement M
wheel_starts_spec =
    tie.close
    (tie.spec
    (λ c. search rules) (λ c. search rules) (λ c. search rules) (λ c. search rules) (λ c κs. search rules) returns)
