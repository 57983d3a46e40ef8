-- `export_leaves::courses::slew_profile_quaternion` meets its contract, by the contracts of what it calls. Assumes nothing.
use borrow.Author.Rules.{rules}
use Rattle.export_leaves.proofs.courses.slew_profile_quaternion.Statement.{statement}
use Rattle.export_leaves.proofs.courses.slew_profile_quaternion.Tie as tie

returns : tie.Need-returns
returns c = rw (c.quaternion.ensures, c.profile_of.ensures) at c.put_turned.ensures

pub slew_profile_quaternion_spec : {M : Type 1} → statement M
slew_profile_quaternion_spec = tie.close (tie.spec (λ c κs. search rules) (λ c κs. search rules) (λ c κs. search rules) returns)
