-- `turn` meets its contract: `aim` gives the target rate of node i + 1, and `step` does the rest.
use lib.Ieee as Ieee
use Rattle.eigenaxis_seed.proofs.turn.Goals as goal

pub returns : goal.returns
unfolding Ieee.of_bits
returns c = rw (c.step.ensures, c.aim.ensures)
