-- `shared_runs::known::know_angles` meets its contract: with a pyramid a row ends in its four gimbal rates (`row_room`), and every place is filled; without one nothing is asked.
use Prim.Native.Nat.{◌+◌, ◌≤◌}
use mathlib.Core.Path.{◌≡◌, ap}
use native.Mathlib.Omega.{arith}
use Rattle.actuators.specs.Maps.{gimbals, control_dim}
use Rattle.actuators.specs.MapLaws.{sized_counts}
use Rattle.control_rows.specs.declared.WheelLaw.TheVariants.{Once}
use Rattle.controls.specs.Controls.{rig_under}
use Rattle.controls.specs.SizeLaws.{dim_sized}
use Rattle.gimbal_angles.specs.KnownLaws.{filled_whole}
use Rattle.forward.specs.StepLaws.{row_room}
use borrow.Author.Rules.{rules}
use Rattle.shared_runs.proofs.known.know_angles.Statement.{statement}
use Rattle.shared_runs.proofs.known.know_angles.Tie as tie

abbrev start : tie.After-control_dim-n → tie.Start
start c = c.before.before

-- the four rates end a row
room : (c : tie.After-control_dim-n) → (start c).args.map.wheel_count + (start c).args.map.thruster_count + 4 ≤ control_dim (start c).args.map
room c =
    let m = (start c).args.map in
    let four : gimbals m.cmgs ≡ 4 = ap gimbals c.in-Some.is in
    omega (arith, row_room (rig_under Once m) (control_dim m) (dim_sized Once m (start c).requires.0), four)

add-fill-angles : tie.Need-overflow_add-map
add-fill-angles c = omega (arith, (sized_counts _ (start c.before).requires.0).0)

add-fill-angles-2 : tie.Need-overflow_add-map-in-Some
add-fill-angles-2 c = let counts = sized_counts _ (start c.before.before).requires.0 in omega (arith, counts.0, counts.1)

fill-angles-requires : tie.Need-fill_angles-requires
fill-angles-requires c κs =
    let d = c.before.before.before.before in
    let pre = (start d).requires in
    rw c.control_dim-n.ensures (omega (arith, room d), (pre.1.0, (search rules, pre.1.1)))

returns : tie.Need-returns-in-None
returns c = (c.requires.1.1, rw c.in-None.is tt)

returns_2 : tie.Need-returns-in-Some
returns_2 c =
    (c.fill_angles.ensures.long, rw c.in-Some.is (filled_whole _ c.fill_angles.ensures))

pub know_angles_spec : {M : Type 1} → statement M
know_angles_spec =
    tie.close
    (tie.spec
    (λ c. search rules)
    (λ c. search rules)
    (λ c κs. search rules)
    add-fill-angles
    add-fill-angles-2
    fill-angles-requires
    returns
    returns_2)
