use Rattle.std.proofs.Common.{arith}
use Rattle.std.proofs.lemmas.Grind.{common_steps}
use Rattle.actuators.specs.Prepare as Prepare
use Rattle.actuators.proofs.checks.thruster_turn.Goals as goal

pub returns-then-outside : goal.returns-then-outside
unfolding Prepare.thruster_checked
returns-then-outside c = rw (← c.outside.ensures, c.if-outside.true)

pub returns-in_err-x : goal.returns-in_err-x
unfolding Prepare.thruster_checked
returns-in_err-x c = rw (← c.outside.ensures, c.if-outside.false) (grind (arith, common_steps))

pub returns : goal.returns
unfolding Prepare.thruster_checked
returns c = rw (← c.outside.ensures, c.if-outside.false) (grind (arith, common_steps))
