-- `handed` meets its contract: without a pyramid it is the torque itself, with one that of `pyramid_torque`.
use Rattle.eigenaxis_seed.proofs.handed.Goals as goal

pub returns-in-Some : goal.returns-in-Some
returns-in-Some c = rw (c.in-Some.is, c.pyramid_torque.ensures)
