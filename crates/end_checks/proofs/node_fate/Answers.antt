-- `end_checks::node_fate` meets its contract: three tests in the definition's order, each on its callee's contract.
use lib.Ieee as Ieee
use Rattle.end_checks.specs.Ends as Ends
use Rattle.end_checks.proofs.node_fate.Goals as goal

pub returns-then-torque_excess : goal.returns-then-torque_excess
unfolding Ends.node_fate Ieee.of_bits
returns-then-torque_excess c = rw (← c.torque_excess.ensures, c.if-torque_excess.true)

pub returns-then-too_fast : goal.returns-then-too_fast
unfolding Ends.node_fate Ieee.of_bits
returns-then-too_fast c =
    let torque-excess = c.torque_excess in
    rw (← torque-excess.ensures, c.if-torque_excess.false, ← c.too_fast.ensures, c.if-too_fast.true)

pub returns-then-over_momentum : goal.returns-then-over_momentum
unfolding Ends.node_fate Ieee.of_bits
returns-then-over_momentum c =
    let torque-excess = c.torque_excess in
    let if1 = c.if-torque_excess in
    let too-fast = c.too_fast in
    let if2 = c.if-too_fast in
    rw (← torque-excess.ensures, if1.false, ← too-fast.ensures, if2.false, ← c.over_momentum.ensures, c.if-over_momentum.true)

pub returns : goal.returns
unfolding Ends.node_fate Ieee.of_bits
returns c =
    let torque-excess = c.torque_excess in
    let if1 = c.if-torque_excess in
    let too-fast = c.too_fast in
    let if2 = c.if-too_fast in
    rw (← torque-excess.ensures, if1.false, ← too-fast.ensures, if2.false, ← c.over_momentum.ensures, c.if-over_momentum.false)
