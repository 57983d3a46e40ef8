-- `turn_of` meets its contract: the answer of `log_so3` decides, as in the definition: zeros, or its three numbers.
use lib.Ieee as Ieee
use Rattle.eigenaxis_seed.specs.Seeds as Seeds
use Rattle.eigenaxis_seed.proofs.turn_of.Goals as goal

pub returns-in-None : goal.returns-in-None
unfolding Seeds.turn_of Ieee.of_bits
returns-in-None c = rw (← c.rotation_between.ensures, c.in-None.is)

pub returns-in-Some : goal.returns-in-Some
unfolding Seeds.turn_of
returns-in-Some c = rw (← c.rotation_between.ensures, c.in-Some.is)
