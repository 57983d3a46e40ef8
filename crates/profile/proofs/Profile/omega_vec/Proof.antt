-- `profile::Profile::omega_vec` meets its contract: each step is its definition's. Assumes nothing.
use borrow.Author.Rules.{rules}
use Rattle.profile.proofs.Profile.omega_vec.Statement.{statement}
use Rattle.profile.proofs.Profile.omega_vec.Tie as tie

returns : tie.Need-returns
returns c = rw (c.scale3.ensures, c.rate.ensures)

pub omega_vec_spec : {M : Type 1} → statement M
omega_vec_spec = tie.close (tie.spec (λ c κs. search rules) (λ c κs. search rules) returns)
