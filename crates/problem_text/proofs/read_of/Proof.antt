-- `problem_text::read_of` meets its contract: each step is its definition's. Assumes nothing.
use Rattle.problem_text.specs.Reader.{read_of}
use borrow.Author.Rules.{rules}
use Rattle.problem_text.proofs.read_of.Statement.{statement}
use Rattle.problem_text.proofs.read_of.Tie as tie

returns : tie.Need-returns
unfolding read_of
returns c =
    let next-list = c.next_list in
    rw (c.problem_of.ensures, ← next-list.ensures, ← c.judge_count-c.ensures)

pub read_of_spec : {M : Type 1} → statement M
read_of_spec = tie.close (tie.spec (search rules) (search rules) (search rules) returns)
