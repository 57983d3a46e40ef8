-- `export_leaves::courses::slew_profile_rate` meets its contract, by the contracts of what it calls. Assumes nothing.
use borrow.Author.Rules.{rules}
use Rattle.export_leaves.proofs.courses.slew_profile_rate.Statement.{statement}
use Rattle.export_leaves.proofs.courses.slew_profile_rate.Tie as tie

returns : tie.Need-returns
returns c = rw (c.rate.ensures, c.profile_of.ensures)

pub slew_profile_rate_spec : {M : Type 1} → statement M
slew_profile_rate_spec = tie.close (tie.spec (λ c κs. search rules) (λ c κs. search rules) returns)
