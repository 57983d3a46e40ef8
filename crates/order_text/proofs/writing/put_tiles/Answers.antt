use Rattle.std.proofs.Common.{arith}
use Rattle.text_writer.specs.PutLaws.{first_none, first_next, first_all}
use Rattle.order_text.specs.OrderTexts.{tiles}
use Rattle.order_text.proofs.writing.put_tiles.Goals as goal

pub loop-k-init : goal.loop-k-init
loop-k-init c = first_none

pub loop-k-preserved : goal.loop-k-preserved
loop-k-preserved c = first_next c.loop-k.invariant c.loop-k-test.true c.put_tile-i.ensures c.put_tile-i.auto.b

pub returns : goal.returns
unfolding tiles
returns c = first_all c.loop-k.invariant (omega arith)
