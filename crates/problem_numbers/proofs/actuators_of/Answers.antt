-- `actuators_of` meets its contract: each field is what the contract of its reader says. Assumes nothing.
use Rattle.problem_numbers.specs.Declared.{actuators}
use Rattle.problem_numbers.proofs.actuators_of.Goals as goal

pub returns : goal.returns
unfolding actuators
returns c = rw (c.cmgs_of.ensures, c.thrusters_of.ensures, c.wheels_of.ensures)
