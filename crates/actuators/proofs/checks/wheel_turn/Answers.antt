use Rattle.std.proofs.Common.{arith}
use Rattle.std.proofs.lemmas.Grind.{common_steps}
use Rattle.actuators.specs.Prepare as Prepare
use Rattle.actuators.proofs.checks.wheel_turn.Goals as goal

pub returns-then-wheel_outside : goal.returns-then-wheel_outside
unfolding Prepare.wheel_checked
returns-then-wheel_outside c = rw (← c.wheel_outside.ensures, c.if-wheel_outside.true)

pub returns-in_err-x : goal.returns-in_err-x
unfolding Prepare.wheel_checked
returns-in_err-x c = rw (← c.wheel_outside.ensures, c.if-wheel_outside.false) (grind (arith, common_steps))

pub returns : goal.returns
unfolding Prepare.wheel_checked
returns c = rw (← c.wheel_outside.ensures, c.if-wheel_outside.false) (grind (arith, common_steps))
