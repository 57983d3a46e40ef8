use Rattle.actuators.specs.Prepare as Prepare
use Rattle.actuators.proofs.checks.with_wheel.Goals as goal

pub returns : goal.returns
unfolding Prepare.with_wheel
returns c = rw c.put_axis.ensures
