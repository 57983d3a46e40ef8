-- `thruster_of` makes the definition's record. Assumes nothing.
use Rattle.std.proofs.Common.{refl}
use Rattle.problem_numbers.specs.Declared.{thruster_of}
use Rattle.problem_numbers.proofs.thruster_of.Goals as goal

pub returns : goal.returns
unfolding thruster_of
returns c = refl
