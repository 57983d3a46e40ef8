use Rattle.std.proofs.Common.{sym, ◌∙◌}
use Rattle.order_text.specs.TileTextLaws.{rows_none, rows_wrong, rows_on, rows_read}
use Rattle.order_text.proofs.reading.rows_of.Goals as goal

pub returns-then-n-eq0 : goal.returns-then-n-eq0
returns-then-n-eq0 c = c.refused.ensures ∙ rows_none _ _ _ c.width_at-n.ensures.0 c.if-n-eq0.true

pub returns-in-Err : goal.returns-in-Err
returns-in-Err c =
    c.refused-in-Err.ensures ∙ rows_wrong _ _ _ c.width_at-n.ensures.0 c.if-n-eq0.false (sym c.in-Err.is ∙ c.table_at.ensures)

pub returns-then-t-s : goal.returns-then-t-s
returns-then-t-s c =
    c.refused-then-t-s.ensures ∙ rows_on _ _ _ c.width_at-n.ensures.0 c.if-n-eq0.false (sym c.in-Ok.is ∙ c.table_at.ensures) c.if-t-s.true

pub returns-else-t-s : goal.returns-else-t-s
returns-else-t-s c = rows_read _ _ _ c.width_at-n.ensures.0 c.if-n-eq0.false (sym c.in-Ok.is ∙ c.table_at.ensures) c.if-t-s.false
