-- `controls::power_excess` meets its contract: each step is its definition's. Assumes nothing.
use Rattle.controls.specs.Controls as Controls
use Rattle.controls.proofs.power_excess.Goals as goal

pub returns : goal.returns
unfolding Controls.power_excess
returns c =
    let paired = c.paired-n in
    rw (c.power_excess.ensures, paired.ensures.0)
