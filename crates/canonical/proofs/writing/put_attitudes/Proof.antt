-- `canonical::writing::put_attitudes` meets its contract: the texts that the calls put stand one after another. Assumes nothing.
use Rattle.canonical_laws.specs.Pieces.{line, quat}
use Rattle.text.specs.Bytes.{bytes}
use mathlib.Core.List.{[], ◌++◌}
use native.Mathlib.Omega.{arith}
use Rattle.text_writer.specs.PutLaws.{puts_most}
use Rattle.canonical.specs.Writing.{close}
use Rattle.canonical.specs.WritingLaws.{puts_pieces}
use borrow.Author.Rules.{rules}
use Rattle.canonical.proofs.writing.put_attitudes.Statement.{statement}
use Rattle.canonical.proofs.writing.put_attitudes.Tie as tie

returns : tie.Need-returns
returns c =
    let second = c.before.before in
    let first = second.before.before.before.before.before in
    let begun = first.before.before.before.before.before in
    let args = begun.args in
    let head = line (bytes "(problem") [] (bytes "\n") in
    let from = line (bytes " (q0") (quat args.q0) close in
    let to = line (bytes " (qf") (quat args.qf) close in
    puts_most (omega arith) (puts_pieces (head ++ from) to (puts_pieces head from c.put_all-i.ensures first.put_quat-j.ensures) second.put_quat.ensures)

pub put_attitudes_spec : {M : Type 1} → statement M
put_attitudes_spec = tie.close (tie.spec (λ c κs. search rules) (λ c κs. search rules) (λ c κs. search rules) (λ c. search rules) returns)
