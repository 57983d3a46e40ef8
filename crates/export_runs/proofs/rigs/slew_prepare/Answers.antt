-- Where `prepare` refuses, the tables are those of the blank map.
use lib.Ieee as Ieee
use Rattle.actuators.specs.Maps as Maps
use Rattle.export_runs.proofs.rigs.slew_prepare.Goals as goal

pub returns-in-Err-clause-wheel_axes_after : goal.returns-in-Err-clause-wheel_axes_after
unfolding Maps.unfilled Ieee.of_bits
returns-in-Err-clause-wheel_axes_after c = rw (← c.actuators_of.ensures, ← c.prepare.ensures, c.in-Err.is)

pub returns-in-Err-clause-thruster_axes_after : goal.returns-in-Err-clause-thruster_axes_after
unfolding Maps.unfilled Ieee.of_bits
returns-in-Err-clause-thruster_axes_after c = rw (← c.actuators_of.ensures, ← c.prepare.ensures, c.in-Err.is)
