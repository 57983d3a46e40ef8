-- `planner::seeded` meets its contract: the three refusals are the definition's, in its order; past them `solve` gives the answer.
use borrow.Author.Tests.{not-true, not-false}
use Rattle.planner.specs.PlanLaws.{seeded_uncounted, seeded_untimed, seeded_short, seeded_search}
use Rattle.planner.specs.OutcomeLaws.{refusal}
use Rattle.planner.proofs.OutcomeLaws.{solved}
use Rattle.planner.proofs.seeded.Goals as goal

pub returns-then-not-counted : goal.returns-then-not-counted
returns-then-not-counted c = refusal _ c.refused_before.ensures (seeded_uncounted _ _ _ _ c.if-not-counted.true)

pub returns-then-not-is_positive : goal.returns-then-not-is_positive
returns-then-not-is_positive c = refusal _ c.refused_before-then-not-is_positive.ensures (seeded_untimed _ _ _ _ c.if-not-counted.false c.is_positive.ensures (c.if-not-is_positive.true))

pub returns-then-ws-room : goal.returns-then-ws-room
returns-then-ws-room c =
    let if1 = c.if-not-counted in
    let is_positive = c.is_positive in
    refusal _ c.refused_before-then-ws-room.ensures (seeded_short _ _ _ _ (if1.false) is_positive.ensures (c.if-not-is_positive.false) c.room.ensures c.if-ws-room.true)

pub seed_decision-seed-requires : goal.seed_decision-seed-requires
seed_decision-seed-requires c =
    let if1 = c.if-not-counted in
    (c.requires.1.0, c.requires.1.1 (if1.false))

pub returns : goal.returns
returns c =
    let if1 = c.if-not-counted in
    let is_positive = c.is_positive in
    let if2 = c.if-not-is_positive in
    let room = c.room in
    let if3 = c.if-ws-room in
    let seed-decision = c.seed_decision-seed in
    solved _ _ seed-decision.ensures.z_value seed-decision.ensures.held_value c.solve.ensures.0 c.solve.ensures.1.0 c.solve.ensures.1.1 (seeded_search _ _ _ _ (if1.false) is_positive.ensures (if2.false) room.ensures if3.false)
