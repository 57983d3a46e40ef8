-- `end_checks::too_fast` meets its contract: without a limit it is false, else it is the definition's comparison of the rate's length.
use lib.Ieee as Ieee
use Rattle.end_checks.proofs.too_fast.Goals as goal

pub returns-in-None : goal.returns-in-None
unfolding Ieee.of_bits
returns-in-None c = rw c.in-None.is

pub returns-in-Some : goal.returns-in-Some
unfolding Ieee.of_bits
returns-in-Some c = rw (c.in-Some.is, c.norm3.ensures)
