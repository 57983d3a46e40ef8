use Rattle.text.proofs.Rows.{is_at_of, is_at_past, is_not}
use borrow.Author.Tests.{lt-leb}
use Rattle.text.proofs.lines.is_at.Goals as goal

pub returns-then-at-s : goal.returns-then-at-s
returns-then-at-s c = is_at_of _ _ _ c.starts_with.result c.if-at-s.true c.starts_with.ensures.bound c.starts_with.ensures.value

pub returns-else-at-s : goal.returns-else-at-s
returns-else-at-s c = rw (lt-leb _ _ c.if-at-s.false) (is_not _ _ _ (is_at_past _ _ _ c.if-at-s.false))
