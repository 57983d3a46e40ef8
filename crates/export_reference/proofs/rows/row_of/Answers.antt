-- `rows::row_of` meets its contract, by the contracts of what it calls. Assumes nothing.
use Rattle.export_reference.specs.Rows.{row}
use Rattle.export_reference.proofs.rows.row_of.Goals as goal

pub returns : goal.returns
unfolding row
returns c = rw (c.numbers.ensures, c.fraction.ensures, c.sample_of.ensures, c.step_controls.ensures)
