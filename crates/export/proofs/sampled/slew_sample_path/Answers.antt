use Rattle.std.proofs.Common.{refl}
use Rattle.std.specs.Float.Ieee.{of_bits}
use Rattle.export.proofs.sampled.slew_sample_path.Goals as goal

pub returns-in-Ok : goal.returns-in-Ok
returns-in-Ok c =
    let is = rw c.tensor-inertia.ensures at c.sample.ensures in
    rw (← is, c.in-Ok.is, c.numbers_of.ensures) (record { placed = record { number_is = refl; place_is = refl }; numbers_are = refl })

pub returns-in-Err : goal.returns-in-Err
unfolding of_bits
returns-in-Err c =
    let is = rw c.tensor-inertia.ensures at c.sample.ensures in
    rw (← is, c.in-Err.is) (record { placed = record { number_is = refl; place_is = refl }; numbers_are = refl })
