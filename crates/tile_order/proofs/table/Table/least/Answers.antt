use Rattle.std.proofs.Common.{◌∙◌, ap, arith, eq-eqb, ne_eqb}
use Rattle.std.specs.Prelude.{min}
use Rattle.common.specs.IterLaws.{iter_none, iter_next}
use Rattle.tile_order.proofs.table.Table.least.Goals.{then-j-i, else-j-i}
use Rattle.tile_order.proofs.table.Table.least.Goals as goal

pub loop-j-init : goal.loop-j-init
loop-j-init c = record { most = omega arith; found = iter_none _ _ }

pub loop-j-preserved : goal.loop-j-preserved
loop-j-preserved c =
    let l = c.loop-j in
    let i = c.args.i in
    elim c.if-j-i.branch [
      | then-j-i w ↦ record {
        most = omega arith;
        found = iter_next _ _ l.j l.invariant.found (w.m-is ∙ rw (ne_eqb l.j i w.if-j-i.true) (w.min-m.ensures ∙ ap (min l.m) w.leg.ensures.0));
      }
      | else-j-i w ↦ record {
        most = omega arith;
        found = iter_next _ _ l.j l.invariant.found (w.m-is ∙ rw (eq-eqb l.j i w.if-j-i.false));
      }
    ]
