use Rattle.std.proofs.Common.{◌≡◌, arith}
use Rattle.common.specs.IterLaws.{iter_none, iter_next}
use Rattle.eigenaxis_seed.specs.Seeds as Seeds
use Rattle.eigenaxis_seed.proofs.alike.Goals as goal

pub loop-i-init : goal.loop-i-init
loop-i-init c = iter_none _ _

pub loop-i-preserved : goal.loop-i-preserved
loop-i-preserved c = iter_next _ _ _ c.loop-i.invariant c.also-same.ensures

pub returns : goal.returns
unfolding Seeds.alike
returns c = let e : c.loop-i.i ≡ 20 = omega arith in rw (← e) c.loop-i.invariant
