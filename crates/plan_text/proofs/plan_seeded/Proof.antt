-- `plan_text::plan_seeded` meets its contract: a seed of 103 numbers is cut where the definition cuts it; another is handed on as one of no nodes. Assumes nothing.
use native.Mathlib.Omega.{arith}
use mathlib.Core.Path.{◌∙◌}
use lib.ListN.{length}
use lib.Ieee as Ieee
use Rattle.plan_text.specs.PlanTextLaws.{seed_counted, seed_miscounted}
use borrow.Author.Rules.{rules}
use Rattle.plan_text.proofs.plan_seeded.Statement.{statement}
use Rattle.plan_text.proofs.plan_seeded.Tie as tie

returns : tie.Need-returns-then-seed-ne103
unfolding Ieee.of_bits
returns c =
    let start = c.args in
    let made = c.plan_from.ensures in
    (made.0 ∙ seed_miscounted start.p start.seed.now (length start.ws.now) c.if-seed-ne103.true, made.1.0)

shared-slice-read-plan-from : tie.Need-bounds-seed-0
shared-slice-read-plan-from c = omega (arith, c.if-seed-ne103.false)

part-plan-from-end : tie.Need-slice_bounds-plan_from-end-2
part-plan-from-end c = omega (arith, c.if-seed-ne103.false)

part-plan-from-end-2 : tie.Need-slice_bounds-plan_from-end-3
part-plan-from-end-2 c = omega (arith, c.if-seed-ne103.false)

returns_2 : tie.Need-returns
returns_2 c =
    let start = c.args in
    let made = c.plan_from-2.ensures in
    (made.0 ∙ seed_counted start.p start.seed.now (length start.ws.now) c.if-seed-ne103.false, made.1.0)

pub plan_seeded_spec : {M : Type 1} → statement M
plan_seeded_spec =
    tie.close
    (tie.spec (search rules) (search rules) (search rules) (search rules) returns shared-slice-read-plan-from (search rules) (search rules)
    part-plan-from-end (search rules) (search rules) part-plan-from-end-2 (search rules) (search rules) returns_2)
