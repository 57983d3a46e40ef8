-- `order_text::answer` meets its contract: each way out is its definition's, by the tests that lead there. Assumes nothing.
use borrow.Author.Rules.{rules}
use Rattle.order_text.specs.OrderTexts.{answer}
use Rattle.order_text.proofs.answer.Statement.{statement}
use Rattle.order_text.proofs.answer.Tie as tie

returns : tie.Need-returns-in-Err
unfolding answer
returns c = rw c.in-Err.is c.refused.ensures

returns_2 : tie.Need-returns-in-Ok
unfolding answer
returns_2 c = rw c.in-Ok.is c.order_read.ensures

pub answer_spec : {M : Type 1} → statement M
answer_spec = tie.close (tie.spec (search rules) (search rules) (search rules) (search rules) returns returns_2)
