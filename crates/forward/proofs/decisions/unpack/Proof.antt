-- `forward::decisions::unpack` meets its contract: one number is set, to the larger of two.
use lib.Ieee as Ieee
use native.Mathlib.Omega.{arith}
use borrow.Author.Rules.{rules}
use Rattle.forward.proofs.decisions.unpack.Statement.{statement}
use Rattle.forward.proofs.decisions.unpack.Tie as tie

returns : tie.Need-returns
unfolding Ieee.of_bits
returns c = rw c.max.ensures

pub unpack_spec : {M : Type 1} → statement M
unpack_spec = tie.close (tie.spec (λ c. search rules) (λ c κs. search rules) (λ c. search rules) returns)
