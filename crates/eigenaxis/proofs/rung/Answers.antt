-- `rung` meets its contract: three cases, passed over, refused and reached, each with a law of the ladder and one of what is kept.
use mathlib.Core.Path.{◌∙◌}
use borrow.Author.Tests.{not-true, not-false}
use Rattle.eigenaxis.specs.LadderLaws.{keeps_over, keeps_refused, keeps_reached, rung_over, rung_refused, rung_reached}
use Rattle.eigenaxis.proofs.rung.Goals as goal

pub returns-then-not-seeding : goal.returns-then-not-seeding
returns-then-not-seeding c =
    let z = c.seed_at-seeding in
    let t = c.args.t in
    (c.passed.ensures ∙ rung_over _ _ _ _ t z.ensures (not-true z.result.fits c.if-not-seeding.true), keeps_over _ _ _ t c.passed.ensures)

pub returns-in-Err : goal.returns-in-Err
returns-in-Err c =
    let if1 = c.if-not-seeding in
    let tried = c.tried-planned in
    let z = c.seed_at-seeding in
    let e = tried.ensures in
    let t = c.args.t in
    (c.passed-in-Err.ensures ∙ rung_refused _ _ _ _ t z.ensures (not-false z.result.fits if1.false) e.0.0 c.in-Err.is, keeps_refused _ _ _ t _ c.passed-in-Err.ensures e.1.0)

pub returns-in-Ok : goal.returns-in-Ok
returns-in-Ok c =
    let if1 = c.if-not-seeding in
    let tried = c.tried-planned in
    let z = c.seed_at-seeding in
    let e = tried.ensures in
    let t = c.args.t in
    (c.reached.ensures ∙ rung_reached _ _ _ _ t z.ensures (not-false z.result.fits if1.false) e.0.0 c.in-Ok.is, keeps_reached _ _ _ t _ c.reached.ensures e.1.0 z.ensures e.1.1)
