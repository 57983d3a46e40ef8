-- `export_board::slew_board_list` meets its contract, by the contracts of what it calls. Assumes nothing.
use Rattle.export_board.specs.Told.{list_told}
use borrow.Author.Rules.{rules}
use Rattle.export_board.proofs.slew_board_list.Statement.{statement}
use Rattle.export_board.proofs.slew_board_list.Tie as tie

returns : tie.Need-returns
returns c =
    let e = rw c.tensor-inertia.ensures at c.drive_list-made.ensures in
    list_told e c.place_of.ensures c.number_of.ensures

pub slew_board_list_spec : {M : Type 1} → statement M
slew_board_list_spec =
    tie.close (tie.spec (λ c κs. search rules) (λ c κs. search rules) (λ c κs. search rules) (λ c κs. search rules) (λ c. search rules) returns)
