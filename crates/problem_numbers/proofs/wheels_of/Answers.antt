-- `wheels_of` meets its contract: a turn of the loop fills one place. Assumes nothing.
use Rattle.std.proofs.Common.{◌≡◌, refl, arith}
use Rattle.common.specs.Iter.{iter}
use Rattle.common.specs.IterLaws.{iter_none, iter_next}
use Rattle.problem_numbers.specs.Declared.{wheels}
use Rattle.problem_numbers.proofs.wheels_of.Goals as goal

pub loop-k-init : goal.loop-k-init
loop-k-init c = rw c.blank_wheel-out.ensures (iter_none _ _)

pub loop-k-preserved : goal.loop-k-preserved
loop-k-preserved c = iter_next _ _ _ c.loop-k.invariant (rw c.wheel_at.ensures refl)

pub returns : goal.returns
unfolding wheels iter
returns c = let e : c.loop-k.k ≡ 8 = omega arith in rw e at c.loop-k.invariant
