use Rattle.std.proofs.Common.{◌≡◌, ap, arith, length}
use Rattle.common.specs.IterLaws.{iter_none, iter_next}
use Rattle.order_text.specs.declared.reading.Width.{Width}
use Rattle.order_text.specs.TileTexts.{width_at}
use Rattle.order_text.proofs.reading.width_at.Goals as goal

pub loop-k-init : goal.loop-k-init
loop-k-init c = record { so_far = iter_none _ _; few = omega arith }

pub loop-k-preserved : goal.loop-k-preserved
loop-k-preserved c =
    let e = c.width_turn-c.ensures in
    record { so_far = iter_next _ _ c.loop-k.k c.loop-k.invariant.so_far e.0; few = omega (arith, e.1) }

pub returns : goal.returns
unfolding width_at
returns c =
    let e : c.loop-k.k ≡ length c.args.s.now = omega arith in
    (ap (λ (w : Width). w.count) (rw e at c.loop-k.invariant.so_far), omega arith)
