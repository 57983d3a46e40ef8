use Rattle.std.proofs.Common.{arith}
use Rattle.text_writer.specs.PutLaws.{first_none, first_next, first_all}
use Rattle.text_writer.specs.Texts.{nodes}
use Rattle.text_writer.proofs.forms.put_nodes.Goals as goal

pub loop-node-init : goal.loop-node-init
loop-node-init c = first_none

pub loop-node-preserved : goal.loop-node-preserved
loop-node-preserved c = first_next c.loop-node.invariant (omega arith) c.put_node-i.ensures c.put_node-i.auto.b

pub returns : goal.returns
unfolding nodes
returns c = first_all c.loop-node.invariant (omega arith)
