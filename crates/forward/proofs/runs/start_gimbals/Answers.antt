-- Without a pyramid the parts are the definition's.
use Rattle.forward.specs.GimbalStartInner as GimbalStartInner
use Rattle.forward.proofs.runs.start_gimbals.Goals as goal

pub returns-in-None : goal.returns-in-None
unfolding GimbalStartInner.start_gimbals
returns-in-None c = rw c.in-None.is
