-- `problem::refused` meets its contract: each step is its definition's. Assumes nothing.
use borrow.Author.Rules.{rules}
use Rattle.problem.proofs.refused.Statement.{statement}
use Rattle.problem.proofs.refused.Tie as tie

returns : tie.Need-returns
returns c = rw c.blank_problem.ensures

pub refused_spec : {M : Type 1} → statement M
refused_spec = tie.close (tie.spec (λ c κs. search rules) returns)
