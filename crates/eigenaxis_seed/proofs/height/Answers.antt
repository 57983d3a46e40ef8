-- `height` meets its contract: the trapezoid is two calls of `least`, which keep it at most i; the wave is the definition's table.
use native.Mathlib.Omega.{arith}
use Rattle.eigenaxis_seed.proofs.height.Goals as goal

pub returns-in-Fastest : goal.returns-in-Fastest
returns-in-Fastest c = rw (c.in-Fastest.is, c.least-in-Fastest.ensures.0, c.least.ensures.0)

pub returns-in-Gentle : goal.returns-in-Gentle
returns-in-Gentle c = rw c.in-Gentle.is
