-- `plan_text::plan_read_from` meets its contract: by how the reading ended, a refusal before any run, or the planner's answer. Assumes nothing.
use mathlib.Core.Path.{◌∙◌}
use Rattle.planner.specs.PlanLaws.{leaves_none}
use borrow.Author.Rules.{rules}
use Rattle.plan_text.proofs.plan_read_from.Statement.{statement}
use Rattle.plan_text.proofs.plan_read_from.Tie as tie

returns : tie.Need-returns-in-Err
returns c = (c.refused.ensures ∙ rw c.in-Err.is, rw c.refused.ensures (leaves_none _))

returns_2 : tie.Need-returns-in-Ok
returns_2 c =
    let made = c.plan_seeded.ensures in
    (made.0 ∙ rw c.in-Ok.is, made.1)

pub plan_read_from_spec : {M : Type 1} → statement M
plan_read_from_spec = tie.close (tie.spec (search rules) (search rules) (search rules) (search rules) returns (search rules) returns_2)
