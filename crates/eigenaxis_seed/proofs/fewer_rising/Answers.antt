-- `fewer_rising` meets its contract: the comparison is the definition's, on the rate of `pace`, and the answer is k or one less.
use Rattle.eigenaxis_seed.specs.Shapes as Shapes
use native.Mathlib.Omega.{arith}
use Rattle.eigenaxis_seed.proofs.fewer_rising.Goals as goal

pub returns-then-limit-angle : goal.returns-then-limit-angle
unfolding Shapes.fewer_rising
returns-then-limit-angle c = (rw (← c.pace.ensures, c.if-limit-angle.true), (omega arith, omega arith))

pub returns-else-limit-angle : goal.returns-else-limit-angle
unfolding Shapes.fewer_rising
returns-else-limit-angle c = (rw (← c.pace.ensures, c.if-limit-angle.false), (omega arith, omega arith))
