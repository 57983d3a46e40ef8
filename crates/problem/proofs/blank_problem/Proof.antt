-- `problem::blank_problem` meets its contract: each step is its definition's. Assumes nothing.
use borrow.Author.Rules.{rules}
use Rattle.problem.proofs.blank_problem.Statement.{statement}
use Rattle.problem.proofs.blank_problem.Tie as tie

returns : tie.Need-returns
returns c = rw c.blank_map.ensures

pub blank_problem_spec : {M : Type 1} → statement M
blank_problem_spec = tie.close (tie.spec (λ c κs. search rules) returns)
