-- `control_rows::row_torque` meets its contract: with no actuators three numbers are there to read; else the parts have room. Assumes nothing.
use mathlib.Core.Path.{sym, ◌∙◌}
use Rattle.control_rows.specs.Parts as Parts
use Rattle.control_rows.specs.RoomLaws.{bare_room, parts_room}
use native.Mathlib.Omega.{arith}
use borrow.Author.Rules.{rules}
use Rattle.control_rows.proofs.row_torque.Statement.{statement}
use Rattle.control_rows.proofs.row_torque.Tie as tie

shared-slice-read-t10 : tie.Need-bounds-u-0
shared-slice-read-t10 c =
    omega (arith, bare_room c.requires (sym c.is_bare.ensures ∙ c.if-is_bare.true))

shared-slice-read-t12 : tie.Need-bounds-u-1
shared-slice-read-t12 c =
    omega (arith, bare_room c.requires (sym c.is_bare.ensures ∙ c.if-is_bare.true))

shared-slice-read-t14 : tie.Need-bounds-u-2
shared-slice-read-t14 c =
    omega (arith, bare_room c.requires (sym c.is_bare.ensures ∙ c.if-is_bare.true))

returns : tie.Need-returns-then-is_bare
unfolding Parts.row_torque
returns c =
    let is-bare = c.is_bare in
    rw (sym is-bare.ensures ∙ c.if-is_bare.true)

parts-torque-requires : tie.Need-parts_torque-requires
parts-torque-requires c κs = parts_room c.requires (sym c.is_bare.ensures ∙ c.if-is_bare.false)

returns_2 : tie.Need-returns
unfolding Parts.row_torque
returns_2 c = rw (c.parts_torque.ensures, sym c.is_bare.ensures ∙ c.if-is_bare.false)

pub row_torque_spec : {M : Type 1} → statement M
row_torque_spec =
    tie.close
    (tie.spec
    (λ c κs. search rules) shared-slice-read-t10 shared-slice-read-t12 shared-slice-read-t14 returns parts-torque-requires returns_2)
