use Rattle.std.proofs.Common.{◌≡◌, arith}
use Rattle.common.specs.IterLaws.{iter_none, iter_next}
use Rattle.eigenaxis_seed.proofs.limited_rising.Goals as goal

pub loop-init : goal.loop-init
loop-init c = record { most = omega arith; least = omega arith; same = iter_none _ _ }

pub loop-preserved : goal.loop-preserved
loop-preserved c =
    let f = c.fewer_rising-k.ensures in
    record { most = omega (arith, f.1, c.loop.invariant.most); least = omega (arith, f.1, c.loop.invariant.least); same = iter_next _ _ _ c.loop.invariant.same f.0 }

pub returns : goal.returns
returns c = let e : c.loop.counter ≡ 7 = omega arith in (rw (← e) c.loop.invariant.same, c.loop.invariant.most)
