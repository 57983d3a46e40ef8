use borrow.Author.Rules.{rules}
use Rattle.std.proofs.Common.{refl}
use Rattle.common.specs.IterLaws.{iter_none, iter_next}
use Rattle.residuals.specs.Sums as Sums
use Rattle.residuals.proofs.sums.effort.Goals as goal

pub loop-k-init : goal.loop-k-init
loop-k-init c = iter_none _ _

pub loop-k-preserved : goal.loop-k-preserved
loop-k-preserved c = iter_next _ _ _ c.loop-k.invariant refl

pub returns : goal.returns
unfolding Sums.effort
returns c = search rules
