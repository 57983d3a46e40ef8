-- `start` meets its contract: the first try is the definition's, and `tried` bounds its runs and says what it leaves.
use lib.Ieee as Ieee
use Rattle.eigenaxis.specs.Ladders as Ladders
use Rattle.eigenaxis.proofs.start.Goals as goal

pub returns : goal.returns
unfolding Ladders.start Ieee.of_bits
returns c =
    let seed-at = c.seed_at-seeding in
    let e = c.tried-planned.ensures in let z = seed-at.ensures in (rw (c.begun.ensures, e.0.0, z), (e.0.1, record { left = e.1.0; stands = rw z at e.1.1 }))
