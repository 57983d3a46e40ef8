-- `Quat::negate` is the scaling by -1. Assumes nothing.
use borrow.Author.Rules.{rules}
use lib.Ieee.{of_bits, neg}
use Rattle.geom.proofs.Quat.negate.Statement.{statement}
use Rattle.geom.proofs.Quat.negate.Tie as tie

returns : tie.Need-returns
unfolding of_bits neg
returns c = rw c.scale.ensures

pub negate_spec : {M : Type 1} → statement M
negate_spec = tie.close (tie.spec (λ c κs. search rules) returns)
