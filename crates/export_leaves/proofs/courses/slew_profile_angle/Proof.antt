-- `export_leaves::courses::slew_profile_angle` meets its contract, by the contracts of what it calls. Assumes nothing.
use borrow.Author.Rules.{rules}
use Rattle.export_leaves.proofs.courses.slew_profile_angle.Statement.{statement}
use Rattle.export_leaves.proofs.courses.slew_profile_angle.Tie as tie

returns : tie.Need-returns
returns c = rw (c.angle.ensures, c.profile_of.ensures)

pub slew_profile_angle_spec : {M : Type 1} → statement M
slew_profile_angle_spec = tie.close (tie.spec (λ c κs. search rules) (λ c κs. search rules) returns)
