use Rattle.std.proofs.Common.{refl}
use Rattle.export_board.proofs.slew_board_sample.Goals as goal

pub returns-in-Ok : goal.returns-in-Ok
returns-in-Ok c =
    let is = rw c.tensor-inertia.ensures at c.drive_sample.ensures in
    rw (← is, c.in-Ok.is) (record { placed = record { number_is = refl; place_is = refl }; numbers_are = refl })

pub returns-in-Err : goal.returns-in-Err
returns-in-Err c =
    let is = rw c.tensor-inertia.ensures at c.drive_sample.ensures in
    rw (← is, c.in-Err.is) (record { placed = record { number_is = refl; place_is = refl }; numbers_are = refl })
