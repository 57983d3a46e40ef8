use Rattle.std.proofs.Common.{refl}
use Rattle.common.specs.IterLaws.{iter_none, iter_next}
use Rattle.scvx.proofs.steps.apply_step.Goals as goal

pub loop-i-init : goal.loop-i-init
loop-i-init c = iter_none _ _

pub loop-i-preserved : goal.loop-i-preserved
loop-i-preserved c = iter_next _ _ _ c.loop-i.invariant refl
