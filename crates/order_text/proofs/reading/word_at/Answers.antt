use Rattle.std.proofs.Common.{sym, ◌∙◌}
use Rattle.order_text.specs.TileTextLaws.{word_none, word_empty, word_some}
use Rattle.order_text.proofs.reading.word_at.Goals as goal

pub returns-then-byte-ne32 : goal.returns-then-byte-ne32
returns-then-byte-ne32 c = word_none _ _ (λ e. c.if-byte-ne32.true (c.byte.ensures ∙ e))

pub returns-then-c-at : goal.returns-then-c-at
returns-then-c-at c = word_empty _ _ (sym c.byte.ensures ∙ c.if-byte-ne32.false) c.number_at-c.ensures c.if-c-at.true

pub returns : goal.returns
returns c = word_some _ _ (sym c.byte.ensures ∙ c.if-byte-ne32.false) c.number_at-c.ensures c.if-c-at.false
