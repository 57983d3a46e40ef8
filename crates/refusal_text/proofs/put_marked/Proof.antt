-- `refusal_text::put_marked` meets its contract: each step is its definition's. Assumes nothing.
use native.Mathlib.Omega.{arith}
use borrow.Author.Tests.{eq-eqb, ne_eqb}
use Rattle.text_writer.specs.PutLaws.{puts_most}
use borrow.Author.Rules.{rules}
use Rattle.refusal_text.proofs.put_marked.Statement.{statement}
use Rattle.refusal_text.proofs.put_marked.Tie as tie

count : tie.Need-returns-then-b-eq35
count c = let p = c.before.before in rw (eq-eqb _ _ p.if-b-eq35.true) p.put_digits.ensures

byte : tie.Need-returns
byte c = let p = c.before.before in rw (ne_eqb _ _ p.if-b-eq35.false) (puts_most (omega arith) p.put_byte.ensures)

pub put_marked_spec : {M : Type 1} → statement M
put_marked_spec = tie.close (tie.spec (search rules) (search rules) count (search rules) (search rules) byte)
