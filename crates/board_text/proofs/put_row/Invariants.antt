-- The first numbers are put.
use Rattle.text_writer.specs.PutLaws.{PutsFirst}
use Rattle.board_text.specs.BoardLines.{number_at}
use Rattle.board_text.proofs.put_row.Given as goal

abbrev pub invariant-loop-n : goal.invariant-loop-n
invariant-loop-n l = PutsFirst (number_at l.v) 22 13 l.initial.b l.at l.n-index l.b l.i
