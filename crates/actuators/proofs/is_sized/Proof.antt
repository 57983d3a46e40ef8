-- `actuators::is_sized` meets its contract: each test is the definition's. Assumes nothing.
use mathlib.Core.Path.{refl}
use Rattle.actuators.specs.Maps.{is_sized}
use Rattle.actuators.proofs.is_sized.Statement.{statement}
use Rattle.actuators.proofs.is_sized.Tie as tie

returns : tie.Need-returns
unfolding is_sized
returns c = refl

pub is_sized_spec : {M : Type 1} → statement M
is_sized_spec = tie.close (tie.spec returns)
