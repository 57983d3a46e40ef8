use Rattle.reference.proofs.plan.blank_reference.Goals as goal
use lib.Ieee as Ieee
use Rattle.reference.specs.Plans as Plans

pub returns : goal.returns
unfolding Plans.blank_reference Ieee.of_bits
returns c = rw c.new-q.ensures
