use borrow.Author.Rules.{rules}
use lib.Ieee as Ieee
use Rattle.actuators.specs.Allocate as Allocate
use Rattle.actuators.proofs.allocation.pyramid_alone.Goals as goal

pub returns-in_err-a : goal.returns-in_err-a
unfolding Allocate.pyramid_alone Ieee.of_bits
returns-in_err-a c = rw (← c.pyramid_a.ensures, c.in_err-a.was) (search rules)

pub returns : goal.returns
unfolding Allocate.pyramid_alone Ieee.of_bits Ieee.neg
returns c =
    rw (← c.pyramid_a.ensures, c.in_ok-a.was, c.least_rates.ensures, c.rows.ensures, c.scale3.ensures)
