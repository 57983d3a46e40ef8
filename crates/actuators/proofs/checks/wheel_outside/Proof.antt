-- `actuators::checks::wheel_outside` meets its contract: each test is the definition's. Assumes nothing.
use borrow.Author.Rules.{rules}
use Rattle.actuators.specs.Prepare as Prepare
use Rattle.actuators.proofs.checks.wheel_outside.Statement.{statement}
use Rattle.actuators.proofs.checks.wheel_outside.Tie as tie

returns : tie.Need-returns
unfolding Prepare.wheel_outside
returns c = rw (c.power_outside.ensures, c.outside-2.ensures, c.outside.ensures)

pub wheel_outside_spec : {M : Type 1} → statement M
wheel_outside_spec = tie.close (tie.spec (λ c κs. search rules) (λ c κs. search rules) (λ c κs. search rules) returns)
