-- `problem_text::next_list` meets its contract: each way out is its definition's, by the tests that lead there. Assumes nothing.
use Rattle.problem_text.specs.Reader.{next_list}
use borrow.Author.Rules.{rules}
use Rattle.problem_text.proofs.next_list.Statement.{statement}
use Rattle.problem_text.proofs.next_list.Tie as tie

returns : tie.Need-returns-in-Err
unfolding next_list
returns c = simp c.in-Err.is

returns_2 : tie.Need-returns-in-Ok
unfolding next_list
returns_2 c = simp c.in-Ok.is c.with_list.ensures

pub next_list_spec : {M : Type 1} → statement M
next_list_spec = tie.close (tie.spec (search rules) (search rules) (search rules) returns returns_2)
