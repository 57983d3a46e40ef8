-- `profile::with_switches` meets its contract: each way out is a case of the definition, told by the tests on the way. Assumes nothing.
use lib.Ieee.{of_bits}
use Rattle.profile.proofs.with_switches.Goals as goal

pub returns-in-Err : goal.returns-in-Err
returns-in-Err c = rw (c.in-Err.is, c.refused.ensures)

pub returns-in-Ok : goal.returns-in-Ok
unfolding of_bits
returns-in-Ok c = rw (c.in-Ok.is, c.flatten-inertia.ensures)
