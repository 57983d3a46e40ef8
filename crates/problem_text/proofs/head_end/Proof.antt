-- `problem_text::head_end` meets its contract: each step is its definition's. Assumes nothing.
use borrow.Author.Rules.{rules}
use Rattle.problem_text.proofs.head_end.Statement.{statement}
use Rattle.problem_text.proofs.head_end.Tie as tie

returns : tie.Need-returns
returns c = rw c.head_at-c.ensures

pub head_end_spec : {M : Type 1} → statement M
head_end_spec = tie.close (tie.spec (search rules) returns)
