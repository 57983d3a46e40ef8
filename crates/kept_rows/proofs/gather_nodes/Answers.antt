use Rattle.std.proofs.Common.{arith}
use Rattle.kept_rows.specs.GatherLaws.{upto_node}
use Rattle.kept_rows.proofs.gather_nodes.Goals as goal

pub loop-k-preserved : goal.loop-k-preserved
loop-k-preserved c = rw c.move_rows.ensures (upto_node c.args.r.now c.loop-k.k c.loop-k.r (omega arith) c.requires c.loop-k.invariant)
