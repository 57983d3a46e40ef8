use Rattle.actuators.specs.Allocate as Allocate
use Rattle.actuators.proofs.allocation.least_rates.Goals as goal

pub returns-in-Err : goal.returns-in-Err
unfolding Allocate.least_rates
returns-in-Err c =
    let h = rw c.gram.ensures at c.invert3.ensures in rw (← h, c.in-Err.is)

pub returns-in-Ok : goal.returns-in-Ok
unfolding Allocate.least_rates
returns-in-Ok c =
    let h = rw c.gram.ensures at c.invert3.ensures in rw (← h, c.in-Ok.is, c.four.ensures, c.apply_tensor.ensures, c.tensor.ensures)
