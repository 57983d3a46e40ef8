use Rattle.std.proofs.Common.{◌≡◌, arith}
use Rattle.common.specs.IterLaws.{iter_none, iter_next}
use Rattle.order_text.specs.TileTexts.{number_at}
use Rattle.order_text.proofs.reading.number_at.Goals as goal

pub loop-k-init : goal.loop-k-init
loop-k-init c = record { so_far = iter_none _ _; within = c.requires; low = omega arith }

pub loop-k-preserved : goal.loop-k-preserved
loop-k-preserved c =
    let e = c.digit_turn-c.ensures in
    record { so_far = iter_next _ _ _ c.loop-k.invariant.so_far e.is; within = e.within; low = e.low }

pub returns : goal.returns
unfolding number_at
returns c =
    let l = c.loop-k in
    let e : l._k ≡ 20 = omega arith in
    record { is = rw e at l.invariant.so_far; within = l.invariant.within; low = l.invariant.low }
