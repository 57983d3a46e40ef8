use Rattle.std.proofs.Common.{◌≡◌, refl, ◌∙◌, length-set, arith}
use Rattle.std.specs.Float.Ieee.{of_bits}
use Rattle.common.specs.IterLaws.{iter_none, iter_next}
use Rattle.reference.specs.Layouts as Layouts
use Rattle.reference.proofs.layout.pad_axes.Goals as goal

pub loop-i-init : goal.loop-i-init
loop-i-init c = (refl, iter_none _ _)

pub loop-i-preserved : goal.loop-i-preserved
loop-i-preserved c = (length-set _ _ _ ∙ c.loop-i.invariant.0, iter_next _ _ _ c.loop-i.invariant.1 refl)

pub returns : goal.returns
unfolding Layouts.pad_axes of_bits
returns c = let e : c.loop-i.i ≡ 24 = omega arith in rw e at c.loop-i.invariant.1
