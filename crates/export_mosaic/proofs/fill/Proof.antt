-- `export_mosaic::fill` meets its contract: it goes by the way that is asked for, as the definition does. Assumes nothing.
use mathlib.Core.Path.{sym, ◌∙◌}
use Rattle.export_mosaic.specs.Told.{fills_by, fills_not}
use borrow.Author.Rules.{rules}
use Rattle.export_mosaic.proofs.fill.Statement.{statement}
use Rattle.export_mosaic.proofs.fill.Tie as tie

returns : tie.Need-returns-in-Some
returns c =
    fills_by _ _ (sym c.in-Some.is ∙ c.asked_of-asked.ensures) c.plan_mosaic.ensures

returns_2 : tie.Need-returns-in-None
returns_2 c =
    fills_not _ _ (sym c.in-None.is ∙ c.asked_of-asked.ensures) c.start.ensures c.halted.ensures

pub fill_spec : {M : Type 1} → statement M
fill_spec =
    tie.close
    (tie.spec
    (λ c κs. search rules)
    (λ c. search rules)
    (λ c κs. search rules)
    (λ c. search rules)
    (λ c κs. search rules)
    (λ c κs. search rules)
    (λ c. search rules)
    (λ c. search rules)
    (λ c. search rules)
    (λ c. search rules)
    (λ c. search rules)
    returns
    returns_2)
