-- `controls::body_momentum` meets its contract: each step is its definition's. Assumes nothing.
use Rattle.controls.specs.Controls as Controls
use Rattle.controls.proofs.body_momentum.Goals as goal

pub returns : goal.returns
unfolding Controls.body_momentum
returns c = rw (c.body_momentum.ensures, c.paired-n.ensures.0)
