use Rattle.std.proofs.Common.{◌≡◌, arith}
use Rattle.std.specs.Float.Ieee.{of_bits}
use Rattle.common.specs.IterLaws.{iter_none, iter_next}
use Rattle.samples.specs.Rows.{rows}
use Rattle.samples.proofs.rows.rows.Goals as goal

pub loop-k-init : goal.loop-k-init
loop-k-init c = iter_none _ _

pub loop-k-preserved : goal.loop-k-preserved
loop-k-preserved c = iter_next _ _ _ c.loop-k.invariant (rw c.row.ensures)

pub returns : goal.returns
unfolding rows of_bits
returns c = let e : c.loop-k.k ≡ 17 = omega arith in rw e at c.loop-k.invariant
