-- `end_checks::over_momentum` meets its contract: a sized map has at most 8 wheels, so `momentum_excess` has its room, and the test is the definition's.
use lib.Ieee as Ieee
use native.Mathlib.Omega.{arith}
use Rattle.actuators.specs.MapLaws.{sized_counts}
use Rattle.end_checks.proofs.over_momentum.Goals as goal

pub momentum_excess-requires : goal.momentum_excess-requires
momentum_excess-requires c = omega (arith, sized_counts _ c.requires)

pub returns : goal.returns
unfolding Ieee.of_bits
returns c = rw c.momentum_excess.ensures
