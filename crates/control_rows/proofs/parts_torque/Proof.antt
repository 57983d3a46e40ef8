-- `control_rows::parts_torque` meets its contract: a row as wide as its parts can be lent part by part, and each part is its definition's. Assumes nothing.
use Rattle.control_rows.specs.Parts as Parts
use borrow.Author.Rules.{rules}
use Rattle.control_rows.proofs.parts_torque.Statement.{statement}
use Rattle.control_rows.proofs.parts_torque.Tie as tie

returns : tie.Need-returns
unfolding Parts.parts_torque lib.Ieee.of_bits
returns c =
    let wheel-part = c.wheel_part-wheel in
    rw (c.gimbal_part.ensures, c.axis_sum-thrust.ensures, wheel-part.ensures)

pub parts_torque_spec : {M : Type 1} → statement M
parts_torque_spec =
    tie.close
    (tie.spec
    (λ c. search rules) (λ c. search rules) (λ c. search rules) (λ c. search rules) (λ c κs. search rules) (λ c. search rules) (λ c. search rules)
    (λ c. search rules) (λ c. search rules) (λ c κs. search rules) (λ c. search rules) (λ c. search rules) (λ c. search rules) (λ c. search rules)
    (λ c κs. search rules) returns)
