-- `angles::ring::negative_at` meets its contract: the sign of the rest counts at an even place (`even_sign`), not at an odd one (`odd_sign`).
use Rattle.angles.proofs.Places.{even_sign, odd_sign}
use Rattle.angles.proofs.ring.negative_at.Statement.{statement}
use Rattle.angles.proofs.ring.negative_at.Tie as tie

returns : tie.Need-returns-then-q-eq0
returns c = even_sign c.args.q c.args.below c.requires c.if-q-eq0.true

returns_2 : tie.Need-returns-else-q-eq0
returns_2 c = odd_sign c.args.q c.args.below c.requires c.if-q-eq0.false

pub negative_at_spec : {M : Type 1} → statement M
negative_at_spec = tie.close (tie.spec returns returns_2)
