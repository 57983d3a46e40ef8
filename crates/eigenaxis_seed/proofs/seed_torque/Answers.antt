-- `seed_torque` meets its contract: `net_torque`, then `handed`, as in the definition.
use Rattle.eigenaxis_seed.specs.Seeds as Seeds
use Rattle.eigenaxis_seed.proofs.seed_torque.Goals as goal

pub returns : goal.returns
unfolding Seeds.seed_torque
returns c = rw (c.handed.ensures, c.net_torque.ensures)
