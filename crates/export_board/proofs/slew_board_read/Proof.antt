-- `export_board::slew_board_read` meets its contract, by the contracts of what it calls. Assumes nothing.
use mir.Facts.{to_z-of_z}
use borrow.Author.Rules.{rules}
use Rattle.export_board.proofs.slew_board_read.Statement.{statement}
use Rattle.export_board.proofs.slew_board_read.Tie as tie

returns : tie.Need-returns
returns c = rw (c.unit_of.ensures, to_z-of_z c.ranges.n) at c.read_back.ensures

pub slew_board_read_spec : {M : Type 1} → statement M
slew_board_read_spec = tie.close (tie.spec (λ c κs. search rules) (λ c κs. search rules) returns)
