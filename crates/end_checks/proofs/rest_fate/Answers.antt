-- `end_checks::rest_fate` meets its contract: end rate, defect, nodes: the definition's tests in its order.
use lib.Ieee as Ieee
use Rattle.end_checks.specs.Ends as Ends
use Rattle.end_checks.proofs.rest_fate.Goals as goal

pub returns-then-norm3 : goal.returns-then-norm3
unfolding Ends.rest_fate Ieee.of_bits
returns-then-norm3 c = rw (← c.norm3.ensures, c.if-norm3.true)

pub returns-then-run : goal.returns-then-run
unfolding Ends.rest_fate Ieee.of_bits
returns-then-run c = rw (← c.norm3.ensures, c.if-norm3.false, c.if-run.true)

pub returns : goal.returns
unfolding Ends.rest_fate Ieee.of_bits
returns c =
    let norm3 = c.norm3 in
    rw (← norm3.ensures, c.if-norm3.false, c.if-run.false) c.nodes_fate.ensures
