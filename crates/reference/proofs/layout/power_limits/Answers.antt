use Rattle.reference.proofs.layout.power_limits.Goals as goal
use lib.Ieee as Ieee
use Rattle.reference.specs.Layouts as Layouts

pub returns : goal.returns
unfolding Layouts.power_limits_value Ieee.of_bits
returns c = rw (c.power_limit-h.ensures, c.power_limit-g.ensures, c.power_limit-f.ensures, c.power_limit-e.ensures, c.power_limit-d.ensures, c.power_limit-c.ensures, c.power_limit-b.ensures, c.power_limit-a.ensures)
