-- `mosaic_answer::write_leg` meets its contract: the leg that was planned and its three texts are those of the law `leg_written`. Assumes nothing.
use borrow.Author.Rules.{rules}
use Rattle.mosaic_answer.specs.MosaicAnswerLaws.{leg_written}
use Rattle.mosaic_answer.proofs.write_leg.Statement.{statement}
use Rattle.mosaic_answer.proofs.write_leg.Tie as tie

returns : tie.Need-returns
returns c =
    let said = c.before.before.before in
    let told = said.before.before.before.before in
    let headed = told.before.before.before.before.before in
    let planned = headed.before.before.before.before in
    let after = planned.before.before.before in
    leg_written _ _ _ after.tile_at-from.ensures after.tile_after-to.ensures planned.next-advanced.ensures headed.write_heading-headed.ensures told.tell-told.ensures said.explain_plan-sentence.ensures

pub write_leg_spec : {M : Type 1} → statement M
write_leg_spec =
    tie.close
    (tie.spec (search rules) (search rules) (search rules) (search rules) (search rules) (search rules) (search rules) (search rules) (search rules)
    (search rules) returns)
