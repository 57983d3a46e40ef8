use Rattle.actuators.specs.Pyramid as Pyramid
use Rattle.actuators.proofs.pyramid.singularity_of.Goals as goal

pub returns : goal.returns
unfolding Pyramid.singularity_of
returns c = rw (c.det3.ensures, c.gram.ensures, c.rows.ensures)
