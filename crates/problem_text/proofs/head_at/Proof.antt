-- `problem_text::head_at` meets its contract: each way out is its definition's, by the tests that lead there. Assumes nothing.
use borrow.Author.Tests.{lt-ltb, le-ltb}
use Rattle.problem_text.specs.Reader.{head_at_value}
use borrow.Author.Rules.{rules}
use Rattle.problem_text.proofs.head_at.Statement.{statement}
use Rattle.problem_text.proofs.head_at.Tie as tie

returns : tie.Need-returns-then-s-gt4096
unfolding head_at_value
returns c = simp (lt-ltb _ _ c.if-s-gt4096.true) c.nothing.ensures

returns_2 : tie.Need-returns
unfolding head_at_value
returns_2 c = simp (le-ltb _ _ c.if-s-gt4096.false) c.lines_at.ensures

pub head_at_spec : {M : Type 1} → statement M
head_at_spec = tie.close (tie.spec (search rules) returns (search rules) returns_2)
