-- `actuators::checks::pyramid_outside` meets its contract: each test is the definition's. Assumes nothing.
use borrow.Author.Rules.{rules}
use lib.Ieee as Ieee
use Rattle.actuators.specs.Prepare as Prepare
use Rattle.actuators.proofs.checks.pyramid_outside.Statement.{statement}
use Rattle.actuators.proofs.checks.pyramid_outside.Tie as tie

returns : tie.Need-returns
unfolding Prepare.pyramid_outside Ieee.of_bits
returns c =
    let outside = c.outside in
    rw (c.outside-4.ensures, c.outside-3.ensures, c.outside-2.ensures, outside.ensures)

pub pyramid_outside_spec : {M : Type 1} → statement M
pyramid_outside_spec = tie.close (tie.spec (λ c κs. search rules) (λ c κs. search rules) (λ c κs. search rules) (λ c κs. search rules) returns)
