-- `mixed` meets its contract: each row is a call of `against` with the second matrix, in the definition's order.
use Rattle.eigenaxis_seed.specs.Seeds as Seeds
use Rattle.eigenaxis_seed.proofs.mixed.Goals as goal

pub returns : goal.returns
unfolding Seeds.mixed
returns c =
    let against = c.against in
    rw (c.against-3.ensures, c.against-2.ensures, against.ensures)
