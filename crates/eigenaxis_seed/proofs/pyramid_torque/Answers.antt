-- `pyramid_torque` meets its contract: the two matrices, at the angles and at 0, are the definition's, and `pyramid_by` does the rest.
use lib.Ieee as Ieee
use Rattle.eigenaxis_seed.proofs.pyramid_torque.Goals as goal

pub returns : goal.returns
unfolding Ieee.of_bits
returns c =
    rw (c.pyramid_by.ensures, c.rows-2.ensures, c.rows.ensures, c.unwrap_or-first.ensures, c.unwrap_or-here.ensures, c.pyramid_a-2.ensures, c.pyramid_a.ensures)
