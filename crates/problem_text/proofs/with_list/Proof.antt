-- `problem_text::with_list` meets its contract: each way out is its definition's, by the tests that lead there. Assumes nothing.
use Rattle.problem_text.specs.Reader.{with_list}
use borrow.Author.Rules.{rules}
use Rattle.problem_text.proofs.with_list.Statement.{statement}
use Rattle.problem_text.proofs.with_list.Tie as tie

returns : tie.Need-returns-then-list
unfolding with_list
returns c = simp c.if-list.true c.nothing.ensures

returns_2 : tie.Need-returns-in-Err
unfolding with_list
returns_2 c =
    let if1 = c.if-list in
    simp (if1.false, c.in-Err.is) c.nothing-in-Err.ensures

returns_3 : tie.Need-returns-in-Ok
unfolding with_list
returns_3 c =
    let if1 = c.if-list in
    simp (if1.false, c.in-Ok.is)

pub with_list_spec : {M : Type 1} → statement M
with_list_spec = tie.close (tie.spec (search rules) returns (search rules) (search rules) (search rules) returns_2 returns_3)
