-- `control_rows::wheel_by` meets its contract: each way out is a case of the definition, told by the tests on the way. Assumes nothing.
use borrow.Author.Rules.{rules}
use Rattle.control_rows.proofs.wheel_by.Statement.{statement}
use Rattle.control_rows.proofs.wheel_by.Tie as tie

returns : tie.Need-returns-in-Once
returns c = rw c.in-Once.is

returns_2 : tie.Need-returns-in-Published
unfolding lib.Ieee.of_bits lib.Ieee.neg
returns_2 c = rw (c.add3.ensures, c.scale3.ensures, c.cross.ensures, c.in-Published.is)

pub wheel_by_spec : {M : Type 1} → statement M
wheel_by_spec =
    tie.close
    (tie.spec
    (λ c. search rules) (λ c. search rules) (λ c κs. search rules) (λ c κs. search rules) (λ c κs. search rules) returns returns_2)
