-- `rate_after` meets its contract: `body_torque`, `rate_dot` and `rate_next` are called on the definition's arguments, in its order.
use Rattle.eigenaxis_seed.specs.Seeds as Seeds
use Rattle.eigenaxis_seed.proofs.rate_after.Goals as goal

pub returns : goal.returns
unfolding Seeds.rate_after lib.Ieee.of_bits
returns c = rw (c.rate_next.ensures, c.rate_dot.ensures, c.unwrap_or-tau.ensures, c.body_torque.ensures)
