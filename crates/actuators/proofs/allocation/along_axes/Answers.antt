use Rattle.actuators.specs.Allocate as Allocate
use Rattle.actuators.proofs.allocation.along_axes.Goals as goal

pub returns-in-Err : goal.returns-in-Err
unfolding Allocate.along_axes
returns-in-Err c = rw (← c.invert3.ensures, c.in-Err.is)

pub returns-in-Ok : goal.returns-in-Ok
unfolding Allocate.along_axes
returns-in-Ok c = rw (← c.invert3.ensures, c.in-Ok.is, c.three.ensures, c.apply_tensor.ensures, c.tensor.ensures)
