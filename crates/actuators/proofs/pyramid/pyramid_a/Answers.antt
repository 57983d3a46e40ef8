use Rattle.std.proofs.Common.{arith}
use Rattle.std.proofs.lemmas.Grind.{common_steps}
use Rattle.actuators.specs.Pyramid as Pyramid
use Rattle.actuators.proofs.pyramid.pyramid_a.Goals as goal

pub returns-in_err-s : goal.returns-in_err-s
unfolding Pyramid.pyramid_a
returns-in_err-s c = grind (arith, common_steps)

pub returns : goal.returns
unfolding Pyramid.pyramid_a
returns c = grind (arith, common_steps)
