-- `profile::coasting` meets its contract: each way out is a case of the definition, told by the test on the way. Assumes nothing.
use borrow.Author.Rules.{rules}
use lib.Ieee.{of_bits}
use Rattle.profile.specs.Profiles.{coasting}
use Rattle.profile.proofs.coasting.Statement.{statement}
use Rattle.profile.proofs.coasting.Tie as tie

returns : tie.Need-returns-then-is_finite-t_coast
unfolding coasting of_bits
returns c = rw (← c.is_finite.ensures, c.if-is_finite-t_coast.true)

returns_2 : tie.Need-returns-else-is_finite-t_coast
unfolding coasting of_bits
returns_2 c = rw (← c.is_finite.ensures, c.if-is_finite-t_coast.false)

pub coasting_spec : {M : Type 1} → statement M
coasting_spec = tie.close (tie.spec (λ c κs. search rules) returns returns_2)
