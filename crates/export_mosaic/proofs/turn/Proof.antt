-- `export_mosaic::turn` meets its contract: it goes by the way that is asked for, as the definition does. Assumes nothing.
use mathlib.Core.Path.{sym, ◌∙◌}
use Rattle.export_mosaic.specs.Told.{turn_by, turn_none}
use borrow.Author.Rules.{rules}
use Rattle.export_mosaic.proofs.turn.Statement.{statement}
use Rattle.export_mosaic.proofs.turn.Tie as tie

returns : tie.Need-returns-in-Some
returns c =
    turn_by _ _ _ _ (sym c.in-Some.is ∙ c.asked_of-asked.ensures) c.next.ensures

returns_2 : tie.Need-returns-in-None
returns_2 c = turn_none _ _ _ _ (sym c.in-None.is ∙ c.asked_of-asked.ensures) c.refused.ensures

pub turn_spec : {M : Type 1} → statement M
turn_spec =
    tie.close
    (tie.spec
    (λ c κs. search rules)
    (λ c. search rules)
    (λ c κs. search rules)
    (λ c. search rules)
    (λ c κs. search rules)
    (λ c. search rules)
    returns
    returns_2)
