use Rattle.samples.specs.Samples.{turned}
use Rattle.samples.proofs.nodes.turned.Goals as goal

pub returns : goal.returns
unfolding turned
returns c = rw (← c.exp_so3.ensures) c.turned_by.ensures
