-- `forward::runs::unbegun` meets its contract: the parts are the definition's.
use mathlib.Core.Path.{refl}
use lib.Ieee as Ieee
use borrow.Author.Rules.{rules}
use Rattle.forward.proofs.runs.unbegun.Statement.{statement}
use Rattle.forward.proofs.runs.unbegun.Tie as tie

returns : tie.Need-returns
unfolding Ieee.of_bits
returns c = refl

pub unbegun_spec : {M : Type 1} → statement M
unbegun_spec = tie.close (tie.spec returns)
