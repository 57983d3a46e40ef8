-- `geom::invert_spd` meets its contract: each way out is a case of the definition, told by the test on the way.
use Rattle.geom.specs.Tensors.{invert_spd}
use Rattle.geom.proofs.invert_spd.Goals as goal

pub returns-then-is_spd : goal.returns-then-is_spd
unfolding invert_spd
returns-then-is_spd c = rw (c.invert3.ensures, ← c.is_spd.ensures, c.if-is_spd.true)

pub returns-else-is_spd : goal.returns-else-is_spd
unfolding invert_spd
returns-else-is_spd c = rw (← c.is_spd.ensures, c.if-is_spd.false)
