use Rattle.std.proofs.Common.{sym, ◌∙◌}
use Rattle.order_text.specs.TileTextLaws.{text_long, text_headless, text_budgetless, text_rows}
use Rattle.order_text.proofs.reading.read_tiles.Goals as goal

pub returns-then-s-gt4096 : goal.returns-then-s-gt4096
returns-then-s-gt4096 c = c.refused.ensures ∙ text_long _ c.if-s-gt4096.true

pub returns-then-not-is_at : goal.returns-then-not-is_at
returns-then-not-is_at c =
    c.refused-then-not-is_at.ensures ∙ text_headless _ c.if-s-gt4096.false (sym c.is_at.ensures.is ∙ c.if-not-is_at.true)

pub returns-in-None : goal.returns-in-None
returns-in-None c =
    c.refused-in-None.ensures ∙ text_budgetless _ c.if-s-gt4096.false (sym c.is_at.ensures.is ∙ c.if-not-is_at.false) (sym c.in-None.is ∙ c.budget_at.ensures.is)

pub returns-in-Some : goal.returns-in-Some
returns-in-Some c =
    c.rows_of.ensures ∙ text_rows _ c.if-s-gt4096.false (sym c.is_at.ensures.is ∙ c.if-not-is_at.false) (sym c.in-Some.is ∙ c.budget_at.ensures.is)
