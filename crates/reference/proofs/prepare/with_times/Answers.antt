use Rattle.reference.proofs.prepare.with_times.Goals as goal
use mathlib.Core.Path.{refl}
use Rattle.reference.specs.Prepare as Prepare

pub returns : goal.returns
unfolding Prepare.with_times
returns c = refl
