-- The end tests are the definition's; past them the last node is not before t, as `earlier` asks.
use Rattle.std.proofs.Common.{ap, ◌∙◌}
use Rattle.samples.specs.Samples.{given, at_node}
use Rattle.samples.specs.SampleLaws.{not_below, at_first, at_last, amid}
use Rattle.samples.proofs.nodes.interpolate.Goals as goal

pub returns-then-t-time : goal.returns-then-t-time
unfolding at_node
returns-then-t-time c = ap given c.at_node.ensures ∙ at_first _ _ _ _ _ c.time.ensures c.if-t-time.true

pub returns-then-t-time-2 : goal.returns-then-t-time-2
unfolding at_node
returns-then-t-time-2 c = ap given c.at_node-then-t-time-2.ensures ∙ at_last _ _ _ _ _ c.time.ensures c.if-t-time.false c.time-2.ensures c.if-t-time-2.true

pub earlier-i-requires : goal.earlier-i-requires
earlier-i-requires c = rw c.time-2.ensures at (not_below _ _ c.if-t-time-2.false)

pub returns : goal.returns
returns c =
    c.between.ensures ∙ amid _ _ _ _ _ c.time.ensures c.if-t-time.false c.time-2.ensures c.if-t-time-2.false c.earlier-i.ensures.0
