-- `refusal_text::write_table` meets its contract: each step is its definition's. Assumes nothing.
use native.Mathlib.Omega.{arith}
use Rattle.text_writer.specs.PutLaws.{puts_most}
use borrow.Author.Rules.{rules}
use Rattle.refusal_text.specs.Sentences.{table}
use Rattle.refusal_text.proofs.write_table.Statement.{statement}
use Rattle.refusal_text.proofs.write_table.Tie as tie

returns : tie.Need-returns
unfolding table
returns c = puts_most (omega arith) c.put_all.ensures

pub write_table_spec : {M : Type 1} → statement M
write_table_spec = tie.close (tie.spec (λ c κs. search rules) (λ c. search rules) returns)
