use Rattle.std.proofs.Common.{sym}
use Rattle.tile_order.specs.AnyLaws.{any_none, any_more, any_hit}
use Rattle.tile_order.proofs.table.Table.any_outside.Goals as goal

pub loop-i-init : goal.loop-i-init
loop-i-init c = any_none _

pub returns-then-row_outside : goal.returns-then-row_outside
returns-then-row_outside c = sym (any_hit _ c.loop-i.i _ c.loop-i-test.true (sym c.if-row_outside.ensures))

pub loop-i-preserved : goal.loop-i-preserved
loop-i-preserved c = any_more _ c.loop-i.i c.loop-i.invariant (sym c.if-row_outside.ensures)
