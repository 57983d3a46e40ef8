-- `control_limits::project_row` meets its contract: with no actuators the three torques are held; else the parts are. Assumes nothing.
use mathlib.Core.Path.{sym, ◌∙◌}
use Rattle.control_rows.specs.Parts as Parts
use Rattle.control_limits.specs.Limits as Limits
use Rattle.control_rows.specs.RoomLaws.{bare_room, parts_room}
use Rattle.control_limits.specs.FewerLaws.{fewer_left}
use borrow.Author.Rules.{rules}
use Rattle.control_limits.proofs.project_row.Statement.{statement}
use Rattle.control_limits.proofs.project_row.Tie as tie

hold-part-requires : tie.Need-hold_part-requires
hold-part-requires c κs =
    (search rules, bare_room c.requires (sym c.is_bare.ensures ∙ c.if-is_bare.true))

returns : tie.Need-returns-then-is_bare
unfolding Limits.projected Limits.limit_of Parts.width
returns c =
    let e = sym c.is_bare.ensures ∙ c.if-is_bare.true in
    rw (c.hold_part.ensures, e, fewer_left 3 _ (bare_room c.requires e))

project-parts-requires : tie.Need-project_parts-requires
project-parts-requires c κs =
    parts_room c.requires (sym c.is_bare.ensures ∙ c.if-is_bare.false)

returns_2 : tie.Need-returns
unfolding Limits.projected Limits.limit_of Parts.width
returns_2 c =
    rw (c.project_parts.ensures, sym c.is_bare.ensures ∙ c.if-is_bare.false)

pub project_row_spec : {M : Type 1} → statement M
project_row_spec =
    tie.close
    (tie.spec
    (λ c κs. search rules) (λ c. search rules) hold-part-requires (λ c. search rules) returns project-parts-requires (λ c. search rules) returns_2)
