-- `rows::put_rows` meets its contract: a turn of the loop puts one row. Assumes nothing.
use Rattle.std.proofs.Common.{◌≡◌, arith, ap, set}
use Rattle.common.specs.IterLaws.{iter_none, iter_next}
use Rattle.export_reference.specs.Rows.{written}
use Rattle.export_reference.proofs.rows.put_rows.Goals as goal

pub loop-k-init : goal.loop-k-init
loop-k-init c = iter_none _ _

pub loop-k-preserved : goal.loop-k-preserved
loop-k-preserved c = iter_next _ _ c.loop-k.k c.loop-k.invariant (ap (set c.loop-k.out c.loop-k.k) c.row_of.ensures)

pub returns : goal.returns
unfolding written
returns c = let e : c.loop-k.k ≡ c.args.n = omega arith in rw e at c.loop-k.invariant
