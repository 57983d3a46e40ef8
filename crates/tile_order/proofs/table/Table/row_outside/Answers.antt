use Rattle.std.proofs.Common.{sym}
use Rattle.tile_order.specs.AnyLaws.{any_none, any_more, any_hit}
use Rattle.tile_order.proofs.table.Table.row_outside.Goals as goal

pub loop-j-init : goal.loop-j-init
loop-j-init c = any_none _

pub returns-then-outside : goal.returns-then-outside
returns-then-outside c = sym (any_hit _ c.loop-j.j _ c.loop-j-test.true (sym c.if-outside.ensures))

pub loop-j-preserved : goal.loop-j-preserved
loop-j-preserved c = any_more _ c.loop-j.j c.loop-j.invariant (sym c.if-outside.ensures)
