-- `seed_at` meets its contract: check, turn, seed: each call is the definition's, in its order.
use Rattle.eigenaxis.specs.Ladders as Ladders
use Rattle.eigenaxis.proofs.seed_at.Goals as goal

pub returns : goal.returns
unfolding Ladders.seed_at
returns c = rw (c.seed.ensures, c.turn_of-phi.ensures, c.check-checked.ensures)
