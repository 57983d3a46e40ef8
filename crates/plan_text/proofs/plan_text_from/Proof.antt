-- `plan_text::plan_text_from` meets its contract: a short buffer gets nothing; else the plan of what was read is told. Assumes nothing.
use Rattle.plan_text.specs.PlanTextLaws.{text_planned, tells_short, tells}
use borrow.Author.Rules.{rules}
use Rattle.plan_text.proofs.plan_text_from.Statement.{statement}
use Rattle.plan_text.proofs.plan_text_from.Tie as tie

returns : tie.Need-returns-then-out-lt16384
returns c = tells_short _ _ c.no_room.ensures c.if-out-lt16384.true

returns_2 : tie.Need-returns
returns_2 c =
    let at-tell = c.before.before in
    let at-plan-read-from = at-tell.before.before.before.before in
    let at_read = at-plan-read-from.before.before in
    let made = at-plan-read-from.plan_read_from-a.ensures in
    tells _ _ at_read.if-out-lt16384.false (text_planned _ _ at_read.read.ensures made.0) made.1 at-tell.tell.ensures

pub plan_text_from_spec : {M : Type 1} → statement M
plan_text_from_spec = tie.close (tie.spec (search rules) returns (search rules) (search rules) (search rules) (search rules) (search rules) returns_2)
