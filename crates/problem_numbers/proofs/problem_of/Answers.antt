-- `problem_of` meets its contract: each field is what the contract of its reader says. Assumes nothing.
use Rattle.problem_numbers.specs.Declared.{problem}
use Rattle.problem_numbers.proofs.problem_of.Goals as goal

pub returns : goal.returns
unfolding problem
returns c = rw (c.new.ensures, c.new-2.ensures, c.momenta_of.ensures, c.actuators_of.ensures, c.weights_of.ensures, c.limit_of.ensures)
