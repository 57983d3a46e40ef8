use Rattle.std.proofs.Common.{sym, ◌∙◌}
use Rattle.order_text.specs.TileTextLaws.{row_wrong, row_more}
use Rattle.order_text.proofs.reading.next_word.Goals as goal

pub returns-in_err-w : goal.returns-in_err-w
returns-in_err-w c = rw c.from_residual.ensures (record { is = row_wrong _ _ _ (sym c.in_err-w.was ∙ c.word_at.ensures.is); within = tt })

pub returns : goal.returns
returns c = record { is = row_more _ _ _ (sym c.in_ok-w.was ∙ c.word_at.ensures.is) c.put_time-more.ensures; within = c.in_ok-w.ensures.within }
