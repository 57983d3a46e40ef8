-- `geom::invert3` meets its contract: each way out is a case of the definition, told by the test on the way.
use lib.Ieee.{of_bits}
use Rattle.geom.specs.Tensors.{inverse_by}
use Rattle.geom.proofs.invert3.Goals as goal

pub returns-then-is_finite-abs : goal.returns-then-is_finite-abs
unfolding inverse_by of_bits
returns-then-is_finite-abs c = rw (← c.det3-det.ensures, ← c.is_finite.ensures, ← c.abs.ensures, c.if-is_finite-abs.true)

pub returns : goal.returns
unfolding inverse_by of_bits
returns c = rw (c.scaled_adjugate.ensures, ← c.det3-det.ensures, ← c.is_finite.ensures, ← c.abs.ensures, c.if-is_finite-abs.false)
