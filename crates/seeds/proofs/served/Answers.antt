use borrow.Author.Rules.{rules}
use lib.Ieee as Ieee
use Rattle.seeds.specs.Seeds as Seeds
use Rattle.seeds.proofs.served.Goals as goal

pub returns-in_err-allocate_body_torque : goal.returns-in_err-allocate_body_torque
unfolding Seeds.served Ieee.of_bits
returns-in_err-allocate_body_torque c = rw (← c.allocate_body_torque.ensures, c.in_err-allocate_body_torque.was) (search rules)

pub returns : goal.returns
unfolding Seeds.served Ieee.of_bits
returns c = rw (← c.allocate_body_torque.ensures, c.in_ok-allocate_body_torque.was)
