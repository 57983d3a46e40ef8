-- `profile::Profile::torque_vec` meets its contract: each step is its definition's. Assumes nothing.
use borrow.Author.Rules.{rules}
use lib.Ieee.{of_bits}
use Rattle.profile.specs.Profiles.{torque_vec}
use Rattle.profile.proofs.Profile.torque_vec.Statement.{statement}
use Rattle.profile.proofs.Profile.torque_vec.Tie as tie

returns : tie.Need-returns
unfolding torque_vec of_bits
returns c = rw (c.body_euler_torque.ensures, c.rate.ensures, c.alpha_signed.ensures, c.tensor-j.ensures)

pub torque_vec_spec : {M : Type 1} → statement M
torque_vec_spec = tie.close (tie.spec (λ c κs. search rules) (λ c κs. search rules) (λ c κs. search rules) (λ c κs. search rules) returns)
