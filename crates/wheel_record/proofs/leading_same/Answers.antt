-- `leading_same` meets its contract: the first wheel that is not the same ends the loop. Assumes nothing.
use Rattle.std.proofs.Common.{◌≡◌, refl, arith, sym, ◌∙◌}
use Rattle.common.specs.IterLaws.{iter_none}
use Rattle.wheel_record.specs.CommitLaws.{leading_next, leading_stays, leading_whole}
use Rattle.wheel_record.proofs.leading_same.Goals as goal

pub loop-k-init : goal.loop-k-init
loop-k-init c = iter_none _ _

pub returns-then-not-same_wheel : goal.returns-then-not-same_wheel
returns-then-not-same_wheel c = leading_stays _ _ _ c.loop-k.invariant (omega arith) (sym c.same_wheel.ensures ∙ c.if-not-same_wheel.true)

pub loop-k-preserved : goal.loop-k-preserved
loop-k-preserved c = leading_next _ _ _ c.loop-k.invariant (sym c.same_wheel.ensures ∙ c.if-not-same_wheel.false)

pub returns : goal.returns
returns c = let e : c.loop-k.k ≡ 8 = omega arith in leading_whole _ _ 8 (rw e at c.loop-k.invariant) refl
