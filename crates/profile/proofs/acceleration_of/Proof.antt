-- `profile::acceleration_of` meets its contract: the definition asks the same question. Assumes nothing.
use borrow.Author.Rules.{rules}
use Rattle.profile.specs.Profiles.{acceleration_of}
use Rattle.profile.proofs.acceleration_of.Statement.{statement}
use Rattle.profile.proofs.acceleration_of.Tie as tie

returns : tie.Need-returns-then-is_positive
unfolding acceleration_of
returns c = rw (← c.is_positive.ensures, c.if-is_positive.true)

returns_2 : tie.Need-returns-else-is_positive
unfolding acceleration_of
returns_2 c = rw (← c.is_positive.ensures, c.if-is_positive.false)

pub acceleration_of_spec : {M : Type 1} → statement M
acceleration_of_spec = tie.close (tie.spec (λ c κs. search rules) returns returns_2)
