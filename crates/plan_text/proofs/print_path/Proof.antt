-- `plan_text::print_path` meets its contract: each step is its definition's. Assumes nothing.
use borrow.Author.Rules.{rules}
use Rattle.plan_text.proofs.print_path.Statement.{statement}
use Rattle.plan_text.proofs.print_path.Tie as tie

returns : tie.Need-returns
returns c = c.write_path.ensures

pub print_path_spec : {M : Type 1} → statement M
print_path_spec = tie.close (tie.spec (search rules) (search rules) returns)
