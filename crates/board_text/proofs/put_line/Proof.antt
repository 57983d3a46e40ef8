-- `board_text::put_line` meets its contract: the texts that the calls put stand one after another. Assumes nothing.
use Rattle.text_writer.specs.PutLaws.{puts_join}
use Rattle.sample_text.specs.SampleLines.{closing}
use Rattle.board_text.specs.BoardLines.{opening, board_line}
use borrow.Author.Rules.{rules}
use Rattle.board_text.proofs.put_line.Statement.{statement}
use Rattle.board_text.proofs.put_line.Tie as tie

returns : tie.Need-returns
unfolding opening closing board_line
returns c =
    let last = c.before.before in
    let row = last.before.before.before.before.before.before in
    puts_join (puts_join row.put_either-i.ensures row.put_row-j.ensures) last.put_either.ensures

pub put_line_spec : {M : Type 1} → statement M
put_line_spec =
    tie.close
    (tie.spec (λ c κs. search rules) (λ c κs. search rules) (λ c κs. search rules) (λ c. search rules) returns)
