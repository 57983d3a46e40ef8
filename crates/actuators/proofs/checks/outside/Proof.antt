-- `actuators::checks::outside` meets its contract: it denies the answer of `is_positive`. Assumes nothing.
use borrow.Author.Rules.{rules}
use Rattle.actuators.specs.Prepare as Prepare
use Rattle.actuators.proofs.checks.outside.Statement.{statement}
use Rattle.actuators.proofs.checks.outside.Tie as tie

returns : tie.Need-returns
unfolding Prepare.outside
returns c = rw c.is_positive.ensures

pub outside_spec : {M : Type 1} → statement M
outside_spec = tie.close (tie.spec (λ c κs. search rules) returns)
