-- A row that passes the test is sized, so that the parts may be read.
use borrow.Author.Rules.{rules}
use Rattle.std.proofs.Common.{sym, ◌∙◌}
use Rattle.actuators.specs.MapLaws.{gimbals_most}
use Rattle.controls.specs.Controls as Controls
use Rattle.controls.specs.SizeLaws.{row_fits_sized}
use Rattle.controls.proofs.body_torque.Goals as goal

pub row_fits-requires : goal.row_fits-requires
row_fits-requires c = rw c.gimbals.ensures (gimbals_most c.args.map.cmgs)

pub returns-then-not-row_fits : goal.returns-then-not-row_fits
unfolding Controls.body_torque
returns-then-not-row_fits c =
    let e = rw (c.rig_of-rig.ensures, c.gimbals.ensures) at (sym c.row_fits.ensures ∙ c.if-not-row_fits.true) in
    rw (c.short_row.ensures, c.rig_of-rig.ensures, e)

pub returns-in_err-a : goal.returns-in_err-a
unfolding Controls.body_torque
returns-in_err-a c =
    let e = rw (c.rig_of-rig.ensures, c.gimbals.ensures) at (sym c.row_fits.ensures ∙ c.if-not-row_fits.false) in
    rw (e, ← c.matrix.ensures, c.in_err-a.was) (search rules)

pub row_torque-requires : goal.row_torque-requires
row_torque-requires c =
    rw c.rig_of-rig.ensures (row_fits_sized (rw (c.rig_of-rig.ensures, c.gimbals.ensures) at (sym c.row_fits.ensures ∙ c.if-not-row_fits.false)))

pub returns : goal.returns
unfolding Controls.body_torque
returns c =
    let e = rw (c.rig_of-rig.ensures, c.gimbals.ensures) at (sym c.row_fits.ensures ∙ c.if-not-row_fits.false) in
    rw (c.row_torque.ensures, e, ← c.matrix.ensures, c.in_ok-a.was, c.rig_of-rig.ensures)
