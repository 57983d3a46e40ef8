-- `profile::switch_times` meets its contract: each way out is a case of the definition, told by the tests on the way. Assumes nothing.
use borrow.Author.Rules.{rules}
use Rattle.profile.specs.Profiles.{switch_times}
use Rattle.profile.proofs.switch_times.Statement.{statement}
use Rattle.profile.proofs.switch_times.Tie as tie

returns : tie.Need-returns-in-None
unfolding switch_times lib.Ieee.of_bits
returns c = rw (c.in-None.is, c.sqrt-bang.ensures)

returns_2 : tie.Need-returns-in-Some
unfolding switch_times
returns_2 c =
    let sqrt = c.sqrt-bang in
    rw (c.in-Some.is, c.limited.ensures, sqrt.ensures)

pub switch_times_spec : {M : Type 1} → statement M
switch_times_spec = tie.close (tie.spec (λ c κs. search rules) (λ c. search rules) (λ c. search rules) (λ c κs. search rules) returns returns_2)
