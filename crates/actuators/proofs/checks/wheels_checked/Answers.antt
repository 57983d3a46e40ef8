use borrow.Author.Rules.{rules}
use Rattle.std.proofs.Common.{arith, refl, ◌+◌}
use Rattle.common.specs.IterLaws.{iter_none, iter_next, iter_stays}
use Rattle.actuators.specs.Prepare as Prepare
use Rattle.actuators.proofs.checks.wheels_checked.Goals as goal

pub loop-k-init : goal.loop-k-init
loop-k-init c = iter_none _ _

pub returns-in_err-map : goal.returns-in_err-map
unfolding Prepare.wheels_checked Prepare.wheel_next
returns-in_err-map c =
    let r = iter_next (Prepare.wheel_turn c.args.wheels) (Prepare.so_far c.args.start) c.loop-k.k c.loop-k.invariant c.wheel_turn.ensures in
    let s = rw c.in_err-map.was at r in
    rw (← iter_stays (Prepare.wheel_turn c.args.wheels) (Prepare.so_far c.args.start) (c.loop-k.k + 1) c.args.count (omega arith) s (λ j. refl)) (search rules)

pub loop-k-preserved : goal.loop-k-preserved
unfolding Prepare.wheel_next
loop-k-preserved c =
    let r = iter_next (Prepare.wheel_turn c.args.wheels) (Prepare.so_far c.args.start) c.loop-k.k c.loop-k.invariant c.wheel_turn.ensures in
    rw c.in_ok-map.was at r

pub returns : goal.returns
unfolding Prepare.wheels_checked
returns c = search rules
