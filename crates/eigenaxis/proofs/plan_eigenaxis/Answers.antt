-- `plan_eigenaxis` meets its contract: `ladder_as` joins start, climb and narrowing; `keeps_begin` carries workspace and promise through them.
use mathlib.Core.Path.{◌∙◌}
use Rattle.eigenaxis.specs.Bounds.{climbed_room}
use Rattle.eigenaxis.specs.LadderLaws.{keeps_begin, ladder_as}
use Rattle.eigenaxis.proofs.plan_eigenaxis.Goals as goal

pub narrow-narrowed-requires : goal.narrow-narrowed-requires
narrow-narrowed-requires c =
    let start = c.start-first in
    climbed_room _ _ _ _ c.climb-climbed.ensures.0 start.ensures.1.0

pub returns : goal.returns
returns c =
    let unweighted = c.unweighted-q in
    let n = c.narrow-narrowed in
    let m = c.climb-climbed in
    let f = c.start-first in
    let q = unweighted.ensures in
    let all = keeps_begin (keeps_begin f.ensures.1.1 m.ensures.1) n.ensures.1 in
    (ladder_as _ _ q f.ensures.0 f.auto.ws m.ensures.0 (m.auto.ws ∙ f.auto.ws) n.ensures.0, (all.left, rw q at all.stands))
