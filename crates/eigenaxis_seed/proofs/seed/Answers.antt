use Rattle.std.proofs.Common.{◌≡◌, arith}
use Rattle.common.specs.IterLaws.{iter_none, iter_next}
use Rattle.eigenaxis_seed.specs.Seeds as Seeds
use Rattle.eigenaxis_seed.proofs.seed.Goals as goal

pub loop-i-init : goal.loop-i-init
loop-i-init c = iter_none _ _

pub loop-i-preserved : goal.loop-i-preserved
loop-i-preserved c = iter_next _ _ _ c.loop-i.invariant c.turn-s.ensures

pub returns : goal.returns
unfolding Seeds.seed
returns c =
    let e : c.loop-i.i ≡ 16 = omega arith in
    rw (← c.norm3.ensures, ← c.rising-k.ensures.0, ← c.start-s.ensures, ← e) c.loop-i.invariant
