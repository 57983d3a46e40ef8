-- `export_board::slew_board_part` meets its contract, by the contracts of what it calls. Assumes nothing.
use borrow.Author.Rules.{rules}
use Rattle.export_board.proofs.slew_board_part.Statement.{statement}
use Rattle.export_board.proofs.slew_board_part.Tie as tie

returns : tie.Need-returns
returns c =
    let e = rw c.unit_of.ensures at c.part.ensures in
    rw (← e) c.put_part.ensures

pub slew_board_part_spec : {M : Type 1} → statement M
slew_board_part_spec = tie.close (tie.spec (λ c κs. search rules) (λ c κs. search rules) (λ c κs. search rules) returns)
