-- `profile::box_turn` meets its contract: each way out is a case of the definition, told by the tests on the way. Assumes nothing.
use borrow.Author.Rules.{rules}
use lib.Ieee.{of_bits}
use Rattle.profile.specs.Profiles.{box_turn}
use Rattle.profile.proofs.box_turn.Statement.{statement}
use Rattle.profile.proofs.box_turn.Tie as tie

returns : tie.Need-returns-then-size
unfolding box_turn of_bits
returns c = rw (← c.abs-size.ensures, c.if-size.true)

returns_2 : tie.Need-returns-else-size
unfolding box_turn of_bits
returns_2 c = rw (← c.abs-size.ensures, c.if-size.false, c.min.ensures)

pub box_turn_spec : {M : Type 1} → statement M
box_turn_spec = tie.close (tie.spec (λ c κs. search rules) (λ c κs. search rules) returns returns_2)
