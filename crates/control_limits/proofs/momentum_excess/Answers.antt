use borrow.Author.Rules.{rules}
use Rattle.common.specs.IterLaws.{iter_none, iter_next}
use Rattle.control_limits.specs.Limits as Limits
use Rattle.control_limits.proofs.momentum_excess.Goals as goal

pub loop-i-init : goal.loop-i-init
loop-i-init c = iter_none _ _

pub loop-i-preserved : goal.loop-i-preserved
loop-i-preserved c = iter_next _ _ _ c.loop-i.invariant c.larger_excess-e.ensures

pub returns : goal.returns
unfolding Limits.momentum_excess
returns c = search rules
