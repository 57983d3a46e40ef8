use borrow.Author.Rules.{rules}
use lib.Ieee as Ieee
use Rattle.actuators.specs.Pyramid as Pyramid
use Rattle.actuators.proofs.pyramid.singularity.Goals as goal

pub float_from_bits-result : goal.float_from_bits-result
unfolding Ieee.nan_bits
float_from_bits-result c = search rules

pub returns-in-None : goal.returns-in-None
unfolding Pyramid.singularity Ieee.of_bits
returns-in-None c = rw c.in-None.is

pub returns-in-Some : goal.returns-in-Some
unfolding Pyramid.singularity
returns-in-Some c = rw (c.in-Some.is, c.pyramid_measure.ensures)
