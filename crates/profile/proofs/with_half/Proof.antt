-- `profile::with_half` meets its contract: each way out is a case of the definition, told by the tests on the way. Assumes nothing.
use borrow.Author.Rules.{rules}
use lib.Ieee.{of_bits}
use Rattle.profile.proofs.with_half.Statement.{statement}
use Rattle.profile.proofs.with_half.Tie as tie

returns : tie.Need-returns-in-None
returns c = rw (c.in-None.is, c.refused.ensures)

returns_2 : tie.Need-returns-in-Some
unfolding of_bits
returns_2 c = rw (c.in-Some.is, c.with_theta.ensures)

pub with_half_spec : {M : Type 1} → statement M
with_half_spec = tie.close (tie.spec (λ c. search rules) (λ c κs. search rules) (λ c. search rules) (λ c κs. search rules) returns returns_2)
