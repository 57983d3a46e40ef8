use Rattle.reference.proofs.search.lengthen.Goals as goal
use mathlib.Core.Path.{◌∙◌}
use Rattle.reference.specs.SearchLaws.{lengthen_stays, lengthen_goes}

pub returns-then-s : goal.returns-then-s
returns-then-s c = lengthen_stays _ _ _ _ c.if-s.true

pub returns : goal.returns
returns c = c.trial.ensures ∙ lengthen_goes _ _ _ _ c.if-s.false
