-- `order_text::order_text` meets its contract: each way out is its definition's, by the tests that lead there. Assumes nothing.
use borrow.Author.Rules.{rules}
use Rattle.order_text.specs.OrderTextLaws.{tells_short, tells}
use Rattle.order_text.proofs.order_text.Statement.{statement}
use Rattle.order_text.proofs.order_text.Tie as tie

returns : tie.Need-returns-then-out-lt512
returns c = tells_short _ c.if-out-lt512.true

returns_2 : tie.Need-returns
returns_2 c =
    let t = c.before.before in
    let a = t.before.before in
    let r = a.before in
    tells _ r.read_tiles-read.ensures a.answer-a.ensures r.if-out-lt512.false t.tell.ensures

pub order_text_spec : {M : Type 1} → statement M
order_text_spec = tie.close (tie.spec returns (search rules) (search rules) (search rules) (search rules) returns_2)
