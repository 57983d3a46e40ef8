-- `rising` meets its contract: without a limit the answer is 8, with one that of `limited_rising`, which is at most 8.
use native.Mathlib.Omega.{arith}
use Rattle.eigenaxis_seed.proofs.rising.Goals as goal

pub returns-in-None : goal.returns-in-None
returns-in-None c = (rw c.in-None.is, omega arith)

pub returns-in-Some : goal.returns-in-Some
returns-in-Some c = (rw (c.in-Some.is, c.limited_rising.ensures.0), c.limited_rising.ensures.1)
