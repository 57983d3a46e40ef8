use lib.Ieee as Ieee
use Rattle.actuators.specs.Maps as Maps
use Rattle.actuators.proofs.no_actuators.Goals as goal

pub returns : goal.returns
unfolding Maps.no_actuators Ieee.of_bits
returns c = rw (c.blank_thruster.ensures, c.blank_wheel.ensures)
