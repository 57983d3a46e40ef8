use Rattle.problem_text.specs.Listing.{item_at}
use Rattle.problem_text.proofs.listing.item_at.Goals as goal

pub returns-in-Some : goal.returns-in-Some
unfolding item_at
returns-in-Some c = simp (← c.line_at.ensures, c.in-Some.is)

pub returns-in-Some-line_at : goal.returns-in-Some-line_at
unfolding item_at
returns-in-Some-line_at c = simp (← c.line_at.ensures, c.in_default.is, ← c.line_at-2.ensures, c.in-Some-line_at.is)

pub returns-in_err-row : goal.returns-in_err-row
unfolding item_at
returns-in_err-row c = simp (← c.line_at.ensures, c.in_default.is, ← c.line_at-2.ensures, c.in_default-line_at.is, ← c.line_at-3.ensures, c.in_err-row.was) c.from_residual.ensures

pub returns : goal.returns
unfolding item_at
returns c = simp (← c.line_at.ensures, c.in_default.is, ← c.line_at-2.ensures, c.in_default-line_at.is, ← c.line_at-3.ensures, c.in_ok-row.was)
