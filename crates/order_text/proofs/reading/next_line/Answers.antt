use Rattle.std.proofs.Common.{refl, sym, ◌∙◌}
use Rattle.order_text.specs.TileTextLaws.{table_wrong, table_more}
use Rattle.order_text.proofs.reading.next_line.Goals as goal

pub returns-in-Some : goal.returns-in-Some
returns-in-Some c = table_more _ _ _ _ refl (sym c.in-Some.is ∙ c.line_at.ensures.is)

pub returns-in-None : goal.returns-in-None
returns-in-None c = table_wrong _ _ _ _ refl (sym c.in-None.is ∙ c.line_at.ensures.is)
