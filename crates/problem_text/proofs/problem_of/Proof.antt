-- `problem_text::problem_of` meets its contract: each step is its definition's. Assumes nothing.
use Rattle.problem_text.specs.Reader.{problem_of}
use borrow.Author.Rules.{rules}
use Rattle.problem_text.proofs.problem_of.Statement.{statement}
use Rattle.problem_text.proofs.problem_of.Tie as tie

returns : tie.Need-returns
unfolding problem_of
returns c = rw (c.momenta_of.ensures, c.weights_of.ensures, c.quat_of-2.ensures, c.quat_of.ensures)

pub problem_of_spec : {M : Type 1} → statement M
problem_of_spec =
    tie.close
    (tie.spec (search rules) (search rules) (search rules) (search rules) (search rules) (search rules) (search rules) (search rules) (search rules)
    (search rules) (search rules) (search rules) (search rules) (search rules) (search rules) (search rules) (search rules) returns)
