-- `order_text::writing::write_ordered` meets its contract, form by form. Assumes nothing.
use borrow.Author.Rules.{rules}
use native.Mathlib.Omega.{arith}
use borrow.Author.Tests.{le-leb, lt-leb}
use Rattle.text_writer.specs.PutLaws.{puts_none, puts_join, puts_most}
use Rattle.order_text.specs.OrderTexts.{ordered_text, ordered}
use Rattle.order_text.proofs.writing.write_ordered.Statement.{statement}
use Rattle.order_text.proofs.writing.write_ordered.Tie as tie

returns : tie.Need-returns-then-n-gt10
unfolding ordered
returns c = rw (lt-leb _ _ c.if-n-gt10.true) (puts_none _ _ _)

returns_2 : tie.Need-returns
unfolding ordered ordered_text
returns_2 c =
    let z = c.before.before in
    let f = z.before.before.before.before.before in
    let u = f.before.before.before.before.before in
    let p = u.before.before.before.before in
    let k = p.before.before.before.before.before in
    let o = k.before.before.before.before.before in
    rw (le-leb _ _ o.if-n-gt10.false)
    (puts_most (omega arith)
    (puts_join (puts_join (puts_join (puts_join (puts_join o.put_order-i.ensures k.put_counted-j.ensures) p.put_counted-k.ensures) u.put_used_up-l.ensures) f.put_counted-m.ensures) c.put_all.ensures))

pub write_ordered_spec : {M : Type 1} → statement M
write_ordered_spec =
    tie.close
    (tie.spec returns (λ c κs. search rules) (λ c κs. search rules) (λ c κs. search rules) (λ c κs. search rules) (λ c κs. search rules) (λ c κs. search rules) (λ c. search rules) returns_2)
