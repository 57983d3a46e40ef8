use Rattle.controls.proofs.matrix.Goals as goal

pub returns-in-None : goal.returns-in-None
unfolding lib.Ieee.of_bits
returns-in-None c = rw c.in-None.is

pub returns-in-Some : goal.returns-in-Some
returns-in-Some c = rw (c.in-Some.is, c.pyramid_a.ensures)
