-- Too many samples, too few rows, or the rows of `put_rows`: a law for each.
use Rattle.std.proofs.Common.{sym, ◌∙◌}
use Rattle.drive_numbers.proofs.Listing.{lists_many, lists_short, lists_room}
use Rattle.drive_numbers.proofs.lists.drive_list.Goals as goal

pub returns-in_default : goal.returns-in_default
returns-in_default c = rw c.not_begun.ensures (lists_many _ _ _ _ _ _ _ (sym c.sample_count.ensures ∙ c.in_default.is))

pub returns-then-count-out : goal.returns-then-count-out
returns-then-count-out c = rw c.not_begun-then-count-out.ensures (lists_short _ _ _ _ _ _ _ (sym c.sample_count.ensures ∙ c.in-Some.is) c.if-count-out.true)

pub returns : goal.returns
returns c = lists_room _ _ _ _ _ _ _ (sym c.sample_count.ensures ∙ c.in-Some.is) c.if-count-out.false c.put_rows.ensures
