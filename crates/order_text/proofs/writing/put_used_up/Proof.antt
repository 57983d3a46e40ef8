-- `order_text::writing::put_used_up` meets its contract: each way out is its definition's, by the tests that lead there. Assumes nothing.
use borrow.Author.Rules.{rules}
use native.Mathlib.Omega.{arith}
use Rattle.text_writer.specs.PutLaws.{puts_most}
use Rattle.order_text.proofs.writing.put_used_up.Statement.{statement}
use Rattle.order_text.proofs.writing.put_used_up.Tie as tie

returns : tie.Need-returns-then-exhausted
returns c =
    let if1 = c.if-exhausted in
    rw if1.true (puts_most (omega arith) c.put_all.ensures)

returns_2 : tie.Need-returns
returns_2 c =
    let if1 = c.if-exhausted in
    rw if1.false (puts_most (omega arith) c.put_all-2.ensures)

pub put_used_up_spec : {M : Type 1} → statement M
put_used_up_spec = tie.close (tie.spec (λ c κs. search rules) (λ c. search rules) returns (λ c κs. search rules) (λ c. search rules) returns_2)
