-- `actuators::checks::power_outside` meets its contract: each step is its definition's. Assumes nothing.
use borrow.Author.Rules.{rules}
use Rattle.actuators.proofs.checks.power_outside.Statement.{statement}
use Rattle.actuators.proofs.checks.power_outside.Tie as tie

returns_2 : tie.Need-returns-in-Some
returns_2 c = rw c.in-Some.is c.outside.ensures

pub power_outside_spec : {M : Type 1} → statement M
power_outside_spec = tie.close (tie.spec (λ c. search rules) (λ c. search rules) (λ c κs. search rules) (λ c. search rules) returns_2)
