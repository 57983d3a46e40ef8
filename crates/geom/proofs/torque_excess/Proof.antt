-- `geom::torque_excess` meets its contract: each step is its definition's. Assumes nothing.
use borrow.Author.Rules.{rules}
use lib.Ieee.{of_bits}
use Rattle.geom.proofs.torque_excess.Statement.{statement}
use Rattle.geom.proofs.torque_excess.Tie as tie

returns : tie.Need-returns
unfolding of_bits
returns c = rw (c.over_by.ensures, c.over_by-b.ensures, c.over_by-a.ensures)

pub torque_excess_spec : {M : Type 1} → statement M
torque_excess_spec =
    tie.close
    (tie.spec
    (λ c. search rules) (λ c. search rules) (λ c κs. search rules) (λ c. search rules) (λ c. search rules) (λ c κs. search rules) (λ c. search rules)
    (λ c. search rules) (λ c κs. search rules) returns)
