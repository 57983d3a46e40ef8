-- `net_torque` meets its contract: the change of rate over dt, then `euler_lhs`: the definition's steps in its order.
use lib.Ieee as Ieee
use Rattle.eigenaxis_seed.specs.Seeds as Seeds
use Rattle.eigenaxis_seed.proofs.net_torque.Goals as goal

pub returns : goal.returns
unfolding Seeds.net_torque Ieee.of_bits
returns c = rw (c.euler_lhs.ensures, c.tensor.ensures, c.scale3-wd.ensures, c.sub3.ensures)
