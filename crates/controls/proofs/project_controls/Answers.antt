-- `controls::project_controls` meets its contract: a row that passes the test is sized, so that the parts may be held; one that does not stays. Assumes nothing.
use mathlib.Core.Path.{sym, ◌∙◌}
use Rattle.controls.specs.Controls as Controls
use Rattle.controls.specs.SizeLaws.{row_fits_sized}
use Rattle.controls.proofs.project_controls.Goals as goal

pub returns-then-not-row_fits : goal.returns-then-not-row_fits
unfolding Controls.project_controls
returns-then-not-row_fits c =
    let e = rw c.rig_of-rig.ensures at (sym c.row_fits.ensures ∙ c.if-not-row_fits.true) in
    rw e

pub project_row-requires : goal.project_row-requires
project_row-requires c =
    row_fits_sized (sym c.row_fits.ensures ∙ c.if-not-row_fits.false)

pub returns : goal.returns
unfolding Controls.project_controls
returns c =
    let e = rw c.rig_of-rig.ensures at (sym c.row_fits.ensures ∙ c.if-not-row_fits.false) in
    rw (c.project_row.ensures, c.rig_of-rig.ensures, e)
