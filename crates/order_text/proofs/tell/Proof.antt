-- `order_text::tell` meets its contract: each way out is its definition's, by the tests that lead there. Assumes nothing.
use borrow.Author.Rules.{rules}
use Rattle.order_text.specs.OrderTextLaws.{prints_found, prints_refused}
use Rattle.order_text.proofs.tell.Statement.{statement}
use Rattle.order_text.proofs.tell.Tie as tie

returns : tie.Need-returns-in-Err
returns c =
    prints_refused _ _ c.in-Err.is c.write_refused-bytes.ensures

returns_2 : tie.Need-returns-in-Ok
returns_2 c =
    prints_found _ _ c.in-Ok.is c.write_ordered-bytes.ensures

pub tell_spec : {M : Type 1} → statement M
tell_spec = tie.close (tie.spec (search rules) (search rules) (search rules) (search rules) (search rules) returns (search rules) returns_2)
