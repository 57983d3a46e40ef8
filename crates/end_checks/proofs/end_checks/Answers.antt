-- `end_checks::end_checks` meets its contract: each way out is a case of the definition: no rotation, too far from the target, or the rest.
use lib.Ieee as Ieee
use Rattle.end_checks.specs.Ends as Ends
use Rattle.end_checks.proofs.end_checks.Goals as goal

pub returns-then-norm3 : goal.returns-then-norm3
unfolding Ends.end_fate Ieee.of_bits
returns-then-norm3 c =
    rw (← c.rotation_between.ensures, c.in-Some.is, ← c.norm3.ensures, c.if-norm3.true)

pub returns-in-None : goal.returns-in-None
unfolding Ends.end_fate Ieee.of_bits
returns-in-None c = rw (← c.rotation_between.ensures, c.in-None.is)

pub returns-else-norm3 : goal.returns-else-norm3
unfolding Ends.end_fate Ieee.of_bits
returns-else-norm3 c =
    rw (← c.rotation_between.ensures, c.in-Some.is, ← c.norm3.ensures, c.if-norm3.false) c.rest_fate.ensures
