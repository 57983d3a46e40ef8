-- `export::courses::put_checked` meets its contract: what it reads from the profile's fate is the profile's answer. Assumes nothing.
use Rattle.export_leaves.specs.OutcomeLaws.{of_profiled_law, answered_at}
use borrow.Author.Rules.{rules}
use Rattle.export.proofs.courses.put_checked.Statement.{statement}
use Rattle.export.proofs.courses.put_checked.Tie as tie

returns : tie.Need-returns
returns c =
    rw c.profiled-made.ensures at (answered_at (of_profiled_law c.profiled-made.result) c.place_of.ensures c.put_profile.ensures)

pub put_checked_spec : {M : Type 1} → statement M
put_checked_spec = tie.close (tie.spec (λ c κs. search rules) (λ c κs. search rules) (λ c κs. search rules) returns)
