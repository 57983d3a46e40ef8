-- `plan_text::no_room` meets its contract: each step is its definition's. Assumes nothing.
use mathlib.Core.Path.{refl}
use Rattle.plan_text.proofs.no_room.Statement.{statement}
use Rattle.plan_text.proofs.no_room.Tie as tie

returns : tie.Need-returns
returns c = refl

pub no_room_spec : {M : Type 1} → statement M
no_room_spec = tie.close (tie.spec returns)
