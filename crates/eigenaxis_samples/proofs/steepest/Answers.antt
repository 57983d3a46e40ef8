-- `eigenaxis_samples::steepest` meets its contract: the loop is `iter` of the turn. Assumes nothing.
use Rattle.std.proofs.Common.{◌≡◌, arith}
use Rattle.common.specs.IterLaws.{iter_none, iter_next}
use Rattle.eigenaxis_samples.specs.Courses.{steepest}
use Rattle.eigenaxis_samples.proofs.steepest.Goals as goal

pub loop-k-init : goal.loop-k-init
loop-k-init c = iter_none _ _

pub loop-k-preserved : goal.loop-k-preserved
loop-k-preserved c = iter_next _ _ _ c.loop-k.invariant c.steeper-a.ensures

pub returns : goal.returns
unfolding steepest
returns c = let e : c.loop-k.k ≡ 16 = omega arith in rw e at c.loop-k.invariant
