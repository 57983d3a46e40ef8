-- `forward::steps::over_power` meets its contract: with no wheels the excess is +0, which is not above the slack; else it is the excess's own contract.
use mathlib.Core.Path.{refl}
use lib.Ieee as Ieee
use Rattle.common.specs.Iter as Iter
use Rattle.control_limits.specs.Limits as Limits
use Rattle.forward.proofs.steps.over_power.Goals as goal

pub returns-then-n-eq0 : goal.returns-then-n-eq0
unfolding Limits.power_excess Iter.iter Ieee.lt Ieee.of_bits
returns-then-n-eq0 c = rw c.if-n-eq0.true refl

pub returns : goal.returns
unfolding Ieee.of_bits
returns c = rw c.power_excess.ensures
