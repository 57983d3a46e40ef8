-- `problem::starts::leading_starts` meets its contract: it stops at the first wheel whose start does not fit. Assumes nothing.
use Rattle.std.proofs.Common.{◌≡◌, sym, ◌∙◌, arith}
use Rattle.common.specs.IterLaws.{iter_none}
use Rattle.problem.specs.StartLaws.{leading_next, leading_stays, leading_whole}
use Rattle.problem.proofs.starts.leading_starts.Goals as goal

pub loop-k-init : goal.loop-k-init
loop-k-init c = iter_none _ _

pub loop-k-preserved : goal.loop-k-preserved
loop-k-preserved c = leading_next _ _ _ _ c.loop-k.invariant (sym c.wheel_starts.ensures ∙ c.if-not-wheel_starts.false)

pub returns-then-not-wheel_starts : goal.returns-then-not-wheel_starts
returns-then-not-wheel_starts c = leading_stays _ _ _ _ c.loop-k.invariant (omega arith) (sym c.wheel_starts.ensures ∙ c.if-not-wheel_starts.true)

pub returns : goal.returns
returns c =
    let e : c.loop-k.k ≡ 8 = omega arith in
    rw e at (leading_whole _ _ _ _ c.loop-k.invariant (omega arith))
