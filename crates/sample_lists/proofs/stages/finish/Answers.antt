use Rattle.samples.specs.Samples.{at_node}
use Rattle.sample_lists.specs.StagesInner.{finished}
use Rattle.sample_lists.proofs.stages.finish.Goals as goal

pub returns-then-t-time : goal.returns-then-t-time
unfolding finished at_node
returns-then-t-time c = rw (c.at_node.ensures, ← c.time.ensures, c.if-t-time.true)

pub returns-then-t-time-2 : goal.returns-then-t-time-2
unfolding finished at_node
returns-then-t-time-2 c =
    rw (c.at_node-then-t-time-2.ensures, ← c.time.ensures, c.if-t-time.false, ← c.time-2.ensures, c.if-t-time-2.true)

pub returns : goal.returns
unfolding finished
returns c =
    rw (c.amidst.ensures, ← c.time.ensures, c.if-t-time.false, ← c.time-2.ensures, c.if-t-time-2.false)
