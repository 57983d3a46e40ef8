use Rattle.reference.proofs.prepare.total_momentum.Goals as goal
use Rattle.reference.specs.Prepare as Prepare

pub returns : goal.returns
unfolding Prepare.total_momentum
returns c = c.body_vector.ensures
