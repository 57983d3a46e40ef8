-- What a sized row has room for, with actuators and without. Assumes nothing.
use Rattle.std.specs.Prelude.{ℕ, ◌≤◌, ◌≡◌, true, false}
use Rattle.control_rows.specs.Parts.{Sized, Room, bare, width}
use Rattle.control_rows.specs.declared.Rig.{Rig}

-- with no actuators: three numbers
pub bare_room : {r : Rig} {g n : ℕ} → Sized r g n → bare r ≡ true → 3 ≤ n
unfolding width
bare_room s e = rw e at s.row

-- with actuators: the parts
pub parts_room : {r : Rig} {g n : ℕ} → Sized r g n → bare r ≡ false → Room r g n
unfolding width
parts_room s e = record { wheels = s.wheels; thrusters = s.thrusters; row = rw e at s.row }
