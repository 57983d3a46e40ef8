use Rattle.reference.proofs.layout.wheel_layout.Goals as goal
use Rattle.reference.specs.Layouts as Layouts

pub returns : goal.returns
unfolding Layouts.wheel_layout
returns c = rw (c.power_limits-power_limits.ensures, c.pad_to_twelve-start.ensures, c.pad_to_twelve-momentum_limits.ensures, c.pad_to_twelve-limits.ensures, c.pad_axes-axes.ensures)
