use Rattle.std.proofs.Common.{arith}
use Rattle.tile_order.specs.SumLaws.{sum_none, sum_more}
use Rattle.tile_order.proofs.table.Table.floor.Goals as goal

pub loop-i-init : goal.loop-i-init
loop-i-init c = record { most = omega arith; so_far = sum_none _ }

pub loop-i-preserved : goal.loop-i-preserved
loop-i-preserved c =
    record { most = omega (arith, c.least-sum.ensures.1); so_far = sum_more _ c.loop-i.i c.loop-i.invariant.so_far c.least-sum.ensures.0 }
