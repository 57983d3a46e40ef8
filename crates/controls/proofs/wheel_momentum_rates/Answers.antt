use borrow.Author.Rules.{rules}
use Rattle.std.proofs.Common.{refl}
use Rattle.common.specs.IterLaws.{iter_none, iter_next}
use Rattle.controls.specs.Controls as Controls
use Rattle.controls.proofs.wheel_momentum_rates.Goals as goal

pub loop-i-init : goal.loop-i-init
loop-i-init c = (search rules, iter_none _ _)

pub loop-i-preserved : goal.loop-i-preserved
loop-i-preserved c = (search rules, iter_next _ _ _ c.loop-i.invariant.1 refl)

pub returns : goal.returns
unfolding Controls.wheel_momentum_rates lib.Ieee.of_bits
returns c = rw (← c.paired-n.ensures.0) (search rules)
