-- `control_rows::body_momentum` meets its contract: each step is its definition's. Assumes nothing.
use Rattle.control_rows.specs.Parts as Parts
use borrow.Author.Rules.{rules}
use Rattle.control_rows.proofs.body_momentum.Statement.{statement}
use Rattle.control_rows.proofs.body_momentum.Tie as tie

returns : tie.Need-returns
unfolding Parts.body_momentum lib.Ieee.of_bits
returns c = c.axis_sum.ensures

pub body_momentum_spec : {M : Type 1} → statement M
body_momentum_spec = tie.close (tie.spec (λ c κs. search rules) returns)
