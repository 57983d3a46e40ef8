-- `geom::exp_at` meets its contract: each way out is a case of the definition, told by the tests on the way. Assumes nothing.
use lib.Ieee.{of_bits}
use Rattle.geom.specs.HalvesLaws.{at_once_law}
use Rattle.geom.specs.Quats.{exp_at}
use Rattle.geom.proofs.exp_at.Goals as goal

pub returns-then-n : goal.returns-then-n
unfolding exp_at of_bits
returns-then-n c = rw c.if-n.true

pub returns-in-Some : goal.returns-in-Some
unfolding exp_at of_bits
returns-in-Some c =
    let if1 = c.if-n in
    rw (if1.false, ← at_once_law, ← c.sin_cos-turn.ensures, c.in-Some.is)

pub returns-in-None : goal.returns-in-None
unfolding exp_at of_bits
returns-in-None c = rw (c.if-n.false, ← at_once_law, ← c.sin_cos-turn.ensures, c.in-None.is)
