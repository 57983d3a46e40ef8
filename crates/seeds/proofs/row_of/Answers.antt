use Rattle.seeds.proofs.row_of.Goals as goal

pub returns : goal.returns
unfolding lib.Ieee.of_bits
returns c = rw (c.unwrap_or.ensures, c.allocate_body_torque.ensures)
