-- `mosaic::took` meets its contract: each field is the definition's, and an open cursor has room for both sums.
use native.Mathlib.Omega.{arith}
use Rattle.mosaic.proofs.took.Goals as goal

pub returns : goal.returns
returns c =
    let last-momenta = c.last_momenta in
    rw last-momenta.ensures
