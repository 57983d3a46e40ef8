-- `export_leaves::courses::slew_profile_omega_vec` meets its contract, by the contracts of what it calls. Assumes nothing.
use borrow.Author.Rules.{rules}
use Rattle.export_leaves.proofs.courses.slew_profile_omega_vec.Statement.{statement}
use Rattle.export_leaves.proofs.courses.slew_profile_omega_vec.Tie as tie

returns : tie.Need-returns
returns c = rw (c.omega_vec.ensures, c.profile_of.ensures)

pub slew_profile_omega_vec_spec : {M : Type 1} → statement M
slew_profile_omega_vec_spec = tie.close (tie.spec (λ c κs. search rules) (λ c κs. search rules) returns)
