-- `controls::momentum_excess` meets its contract: each step is its definition's. Assumes nothing.
use Rattle.controls.specs.Controls as Controls
use Rattle.controls.proofs.momentum_excess.Goals as goal

pub returns : goal.returns
unfolding Controls.momentum_excess
returns c = rw (c.momentum_excess.ensures, c.paired-n.ensures.0)
