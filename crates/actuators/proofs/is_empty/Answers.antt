use Rattle.actuators.specs.Maps.{is_empty}
use Rattle.actuators.proofs.is_empty.Goals as goal

pub returns : goal.returns
unfolding is_empty
returns c = rw c.no_cmgs.ensures
