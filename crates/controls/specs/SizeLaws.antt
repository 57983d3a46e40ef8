-- When a row is as wide as its parts: where it passes the test, and where it has the width of a sized map. Assumes nothing.
use Rattle.std.specs.Prelude.{ℕ, ◌≡◌, refl, Bool, true, false, ◌&&◌}
use Rattle.std.proofs.Common.{le_refl, leb-true}
use Rattle.actuators.specs.Maps.{is_empty, is_sized, gimbals, control_dim}
use Rattle.actuators.specs.MapLaws.{sized_counts}
use Rattle.actuators.specs.declared.ActuatorMap.{ActuatorMap}
use Rattle.control_rows.specs.Parts.{Sized, width}
use Rattle.control_rows.specs.declared.Rig.{Rig}
use Rattle.control_rows.specs.declared.WheelLaw.{WheelLaw}
use Rattle.controls.specs.Controls.{rig_under, row_fits_value}

three : (a b c : Bool) → a && b && c ≡ true → (a ≡ true) × ((b ≡ true) × (c ≡ true))
three true true true e = (refl, (refl, refl))
three true true false e = (refl, (refl, e))
three true false c e = let z : true ≡ false = cc in (cc, (cc, cc))
three false b c e = let z : true ≡ false = cc in (cc, (cc, cc))

-- a row that fits is sized
pub row_fits_sized : {r : Rig} {g n : ℕ} → row_fits_value r g n ≡ true → Sized r g n
unfolding row_fits_value
row_fits_sized e =
    let t = three _ _ _ e in
    record { wheels = leb-true _ _ t.0; thrusters = leb-true _ _ t.1.0; row = leb-true _ _ t.1.1 }

-- rows of `control_dim m` numbers are what the inner functions ask for
pub dim_sized : (law : WheelLaw) (m : ActuatorMap) → is_sized m ≡ true → Sized (rig_under law m) (gimbals m.cmgs) (control_dim m)
unfolding is_empty control_dim width
dim_sized law m e =
    let counts = sized_counts m e in
    record { wheels = counts.0; thrusters = counts.1; row = rw e (le_refl _) }
