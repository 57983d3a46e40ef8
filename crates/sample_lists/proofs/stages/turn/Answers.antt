use Rattle.sample_lists.specs.StagesInner.{turning}
use Rattle.sample_lists.proofs.stages.turn.Goals as goal

pub returns : goal.returns
unfolding turning
returns c = rw c.exp_at.ensures
