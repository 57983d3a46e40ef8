use Rattle.std.proofs.Common.{sym, ◌∙◌}
use Rattle.order_text.specs.TileTextLaws.{line_none, line_wrong, line_unended, line_ended}
use Rattle.order_text.proofs.reading.line_at.Goals as goal

pub returns-then-not-is_at : goal.returns-then-not-is_at
returns-then-not-is_at c = record { is = line_none _ _ _ _ _ _ (sym c.is_at.ensures.is ∙ c.if-not-is_at.true); within = tt }

pub returns-in_err-c : goal.returns-in_err-c
returns-in_err-c c =
    rw c.from_residual.ensures
    (record { is = line_wrong _ _ _ _ _ _ (sym c.is_at.ensures.is ∙ c.if-not-is_at.false) (sym c.in_err-c.was ∙ c.row_at.ensures.is); within = tt })

pub returns-then-not-ends_at : goal.returns-then-not-ends_at
returns-then-not-ends_at c =
    record {
      is = line_unended _ _ _ _ _ _ (sym c.is_at.ensures.is ∙ c.if-not-is_at.false) (sym c.in_ok-c.was ∙ c.row_at.ensures.is) (sym c.ends_at.ensures.is ∙ c.if-not-ends_at.true);
      within = tt;
    }

pub returns : goal.returns
returns c =
    record {
      is =
          line_ended _ _ _ _ _ _ (sym c.is_at.ensures.is ∙ c.if-not-is_at.false) (sym c.in_ok-c.was ∙ c.row_at.ensures.is) (sym c.ends_at.ensures.is ∙ c.if-not-ends_at.false)
          c.tail_length.ensures;
      within = rw c.tail_length.ensures (c.ends_at.ensures.within c.if-not-ends_at.false);
    }
