-- A near guess is settled, any other goes to `slow_root`; `digits_range` bounds both.
use Rattle.float.proofs.Settled.{digits_range}
use Rattle.float.proofs.root.root_digits.Goals as goal

pub returns-in-Some : goal.returns-in-Some
returns-in-Some c = digits_range _ _ c.requires (rw c.argument-e.ensures at (c.settled.ensures _ c.in-Some.ensures.0))

pub returns-in-None : goal.returns-in-None
returns-in-None c = digits_range _ _ c.requires (rw c.argument-e.ensures at c.slow_root.ensures)
