-- The first nodes are put.
use Rattle.std.proofs.Common.{get_or}
use Rattle.forward.specs.Runs.{no_node}
use Rattle.text_writer.specs.PutLaws.{PutsFirst}
use Rattle.text_writer.specs.Texts.{node}
use Rattle.text_writer.proofs.forms.put_nodes.Given as goal

abbrev pub invariant-loop-node : goal.invariant-loop-node
invariant-loop-node l = PutsFirst (λ j. node (get_or l.fn.nodes j no_node) l.wheels) 382 17 l.initial.b l.at l.node-index l.b l.i
