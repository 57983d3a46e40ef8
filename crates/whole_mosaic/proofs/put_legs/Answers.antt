-- A refused leg ends it.
use Rattle.std.proofs.Common.{◌≡◌, ap, arith}
use Rattle.mosaic.specs.declared.Cursor.{Cursor}
use Rattle.whole_mosaic.specs.Filling.{filling_first, filling_next, filling_cut, filling_whole, filled_from, start_own}
use Rattle.whole_mosaic.proofs.put_legs.Goals as goal

pub loop-k-init : goal.loop-k-init
loop-k-init c = filling_first _ _ _ _ _ _ _ _ _ (start_own c.start-c.ensures)

pub returns-in-Err : goal.returns-in-Err
returns-in-Err c =
    filled_from _ _ _ _ _ (ap (λ (x : Cursor). x.momenta) c.start-c.ensures)
    (filling_cut _ _ _ _ _ c.loop-k.invariant (omega (arith, c.requires.most)) c.quat_of.ensures c.quat_of-in-loop-k.ensures c.next-made.ensures c.in-Err.is (omega arith))

pub loop-k-preserved : goal.loop-k-preserved
loop-k-preserved c =
    let lent = c.requires in
    filling_next _ _ _ _ _ c.loop-k.invariant (omega (arith, lent.most)) c.quat_of.ensures c.quat_of-in-loop-k.ensures c.next-made.ensures c.in_default.is c.counts_of-count.ensures c.times_of-time.ensures c.rows-node.ensures
    (omega (arith, lent.counts)) (omega (arith, lent.times)) (omega (arith, lent.decisions)) (omega (arith, lent.nodes))

pub returns : goal.returns
returns c =
    let e : c.loop-k.k ≡ c.args.legs = omega arith in
    filled_from _ _ _ _ _ (ap (λ (x : Cursor). x.momenta) c.start-c.ensures) (rw (← e) (filling_whole _ _ _ _ _ c.loop-k.invariant))
