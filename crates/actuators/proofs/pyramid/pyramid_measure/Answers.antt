use Rattle.actuators.specs.Pyramid as Pyramid
use Rattle.actuators.proofs.pyramid.pyramid_measure.Goals as goal

pub returns-in-Err : goal.returns-in-Err
unfolding Pyramid.pyramid_measure
returns-in-Err c = rw (← c.pyramid_a.ensures, c.in-Err.is)

pub returns-in-Ok : goal.returns-in-Ok
unfolding Pyramid.pyramid_measure
returns-in-Ok c = rw (← c.pyramid_a.ensures, c.in-Ok.is, c.singularity_of.ensures)
