-- `wheel_of` meets its contract, by that of `limit_of`. Assumes nothing.
use Rattle.problem_numbers.specs.Declared.{wheel_of}
use Rattle.problem_numbers.proofs.wheel_of.Goals as goal

pub returns : goal.returns
unfolding wheel_of
returns c = rw c.limit_of.ensures
