-- Below the count a sample by its time is the sample by its index.
use Rattle.std.proofs.Common.{sym, ◌∙◌}
use Rattle.samples.specs.CountLaws.{given_count}
use Rattle.sample_lists.proofs.Listing.{lists_many, lists_short, lists_room, some_count}
use Rattle.sample_lists.proofs.sample_list.Goals as goal

pub returns-in_default : goal.returns-in_default
returns-in_default c = rw c.not_begun.ensures (lists_many _ _ _ _ _ _ _ (sym c.sample_count.ensures ∙ c.in_default.is))

pub returns-then-count-out : goal.returns-then-count-out
returns-then-count-out c = rw c.not_begun-then-count-out.ensures (lists_short _ _ _ _ _ _ _ (sym c.sample_count.ensures ∙ c.in-Some.is) c.if-count-out.true)

pub put_rows-requires : goal.put_rows-requires
put_rows-requires c =
    let e = sym c.sample_count.ensures ∙ c.in-Some.is in
    (some_count _ _ _ e, given_count _ _ _ e, c.if-count-out.false)

pub returns : goal.returns
returns c = lists_room _ _ _ _ _ _ _ (sym c.sample_count.ensures ∙ c.in-Some.is) c.if-count-out.false c.put_rows.ensures
