-- `eigenaxis_text::plan_eigenaxis_text` meets its contract: a short buffer gets nothing; else the plan of what was read is told. Assumes nothing.
use Rattle.plan_text.specs.PlanTextLaws.{text_planned, tells_short, tells}
use borrow.Author.Rules.{rules}
use Rattle.eigenaxis_text.proofs.plan_eigenaxis_text.Statement.{statement}
use Rattle.eigenaxis_text.proofs.plan_eigenaxis_text.Tie as tie

returns : tie.Need-returns-then-out-lt16384
returns c = tells_short _ _ c.no_room.ensures c.if-out-lt16384.true

returns_2 : tie.Need-returns
returns_2 c =
    let at-tell = c.before.before in
    let at-planned = at-tell.before.before.before.before in
    let at_read = at-planned.before.before in
    let made = at-planned.plan_eigenaxis_read-a.ensures in
    tells _ _ at_read.if-out-lt16384.false (text_planned _ _ at_read.read.ensures made.0) made.1 at-tell.tell.ensures

pub plan_eigenaxis_text_spec : {M : Type 1} → statement M
plan_eigenaxis_text_spec = tie.close (tie.spec (search rules) returns (search rules) (search rules) (search rules) (search rules) (search rules) returns_2)
