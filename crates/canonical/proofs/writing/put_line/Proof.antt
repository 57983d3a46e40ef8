-- `canonical::writing::put_line` meets its contract: the texts that the calls put stand one after another. Assumes nothing.
use Rattle.text_writer.specs.PutLaws.{puts_join}
use Rattle.canonical.specs.WritingLaws.{line_text}
use borrow.Author.Rules.{rules}
use Rattle.canonical.proofs.writing.put_line.Statement.{statement}
use Rattle.canonical.proofs.writing.put_line.Tie as tie

returns : tie.Need-returns
returns c =
    let tail = c.before.before in
    let words = tail.before.before.before.before in
    let head = words.before.before.before.before in
    rw (line_text _ _ _ _) (puts_join (puts_join c.put_all-i.ensures words.put_words-j.ensures) tail.put_all.ensures)

pub put_line_spec : {M : Type 1} → statement M
put_line_spec = tie.close (tie.spec (search rules) (search rules) (search rules) (search rules) returns)
