-- `control_rows::wheel_part` meets its contract: each way out is a case of the definition, told by the tests on the way. Assumes nothing.
use borrow.Author.Tests.{eq-eqb, ne_eqb}
use Rattle.control_rows.specs.Parts as Parts
use borrow.Author.Rules.{rules}
use Rattle.control_rows.proofs.wheel_part.Statement.{statement}
use Rattle.control_rows.proofs.wheel_part.Tie as tie

returns : tie.Need-returns-then-n-eq0
unfolding Parts.wheel_part
returns c = rw (eq-eqb _ _ c.if-n-eq0.true)

returns_2 : tie.Need-returns
unfolding Parts.wheel_part lib.Ieee.of_bits lib.Ieee.neg
returns_2 c =
    rw (c.wheel_by.ensures, c.add3.ensures, c.scale3.ensures, c.axis_sum-eta.ensures, ne_eqb _ _ c.if-n-eq0.false)

pub wheel_part_spec : {M : Type 1} → statement M
wheel_part_spec = tie.close (tie.spec returns (λ c κs. search rules) (λ c κs. search rules) (λ c κs. search rules) (λ c κs. search rules) returns_2)
