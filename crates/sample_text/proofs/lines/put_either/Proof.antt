-- `sample_text::lines::put_either` meets its contract: each way out is its definition's, by the tests that lead there. Assumes nothing.
use Rattle.std.proofs.Common.{arith, rules}
use Rattle.text_writer.specs.PutLaws.{puts_most}
use Rattle.sample_text.proofs.lines.put_either.Statement.{statement}
use Rattle.sample_text.proofs.lines.put_either.Tie as tie

returns : tie.Need-returns-then-first
returns c =
    let put = c.before.before in
    let start = put.before.before.before.before.before.before in
    rw put.if-first.true (puts_most (omega (arith, start.requires)) c.put_all.ensures)

returns_2 : tie.Need-returns
returns_2 c =
    let put = c.before.before in
    let start = put.before.before.before.before.before.before in
    rw put.if-first.false (puts_most (omega (arith, start.requires)) put.put_all-2.ensures)

pub put_either_spec : {M : Type 1} → statement M
put_either_spec = tie.close (tie.spec (search rules) (search rules) returns (search rules) (search rules) returns_2)
