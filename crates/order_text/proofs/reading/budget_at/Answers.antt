use Rattle.std.proofs.Common.{sym, ◌∙◌}
use Rattle.order_text.specs.TileTextLaws.{budget_none, budget_wrong, budget_unended, budget_ended}
use Rattle.order_text.proofs.reading.budget_at.Goals as goal

pub returns-then-not-is_at-clause-is : goal.returns-then-not-is_at-clause-is
returns-then-not-is_at-clause-is c = budget_none _ (sym c.is_at.ensures.is ∙ c.if-not-is_at.true)

pub returns-in_err-w-clause-is : goal.returns-in_err-w-clause-is
returns-in_err-w-clause-is c =
    rw c.from_residual.ensures (budget_wrong _ (sym c.is_at.ensures.is ∙ c.if-not-is_at.false) (sym c.in_err-w.was ∙ c.word_at.ensures.is))

pub returns-then-not-is_at-2-clause-is : goal.returns-then-not-is_at-2-clause-is
returns-then-not-is_at-2-clause-is c =
    budget_unended _ (sym c.is_at.ensures.is ∙ c.if-not-is_at.false) (sym c.in_ok-w.was ∙ c.word_at.ensures.is) (sym c.is_at-2.ensures.is ∙ c.if-not-is_at-2.true)

pub returns-clause-is : goal.returns-clause-is
returns-clause-is c =
    budget_ended _ (sym c.is_at.ensures.is ∙ c.if-not-is_at.false) (sym c.in_ok-w.was ∙ c.word_at.ensures.is) (sym c.is_at-2.ensures.is ∙ c.if-not-is_at-2.false)
