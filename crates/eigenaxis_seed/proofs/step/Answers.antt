-- `step` meets its contract: each field is its callee's contract, on the definition's arguments.
use Rattle.eigenaxis_seed.specs.Seeds as Seeds
use Rattle.eigenaxis_seed.proofs.step.Goals as goal

pub returns : goal.returns
unfolding Seeds.step
returns c =
    let seed-torque = c.seed_torque-torque in
    let row_of = c.row_of-row in
    let held-row = c.held_row-u in
    let placed = c.placed-rates2 in
    rw (c.both-fits.ensures, c.alike.ensures, c.follow-motion2.ensures, c.placed-torques2.ensures, placed.ensures, held-row.ensures, row_of.ensures, seed-torque.ensures)
