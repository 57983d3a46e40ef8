-- `climb_turn` meets its contract: where the climb has ended the ladder stays (`climb_stays`), else the next rung is tried (`climb_goes`).
use mathlib.Core.Path.{◌∙◌, refl}
use borrow.Author.Tests.{not-true, not-false}
use Rattle.eigenaxis.specs.LadderLaws.{keeps_same, climb_goes, climb_stays}
use Rattle.eigenaxis.proofs.climb_turn.Goals as goal

pub returns-then-not-s : goal.returns-then-not-s
returns-then-not-s c = (climb_stays _ _ _ _ 0 (not-true c.args.s.climbing c.if-not-s.true), keeps_same _ _ refl)

pub returns : goal.returns
returns c =
    let if1 = c.if-not-s in
    (c.rung.ensures.0 ∙ climb_goes _ _ _ _ 0 (not-false c.args.s.climbing if1.false), c.rung.ensures.1)
