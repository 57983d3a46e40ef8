-- `export_leaves::shapes::slew_body_euler_torque` meets its contract, by the contracts of what it calls. Assumes nothing.
use borrow.Author.Rules.{rules}
use Rattle.export_leaves.proofs.shapes.slew_body_euler_torque.Statement.{statement}
use Rattle.export_leaves.proofs.shapes.slew_body_euler_torque.Tie as tie

returns : tie.Need-returns
returns c = rw (c.body_euler_torque.ensures, c.tensor.ensures)

pub slew_body_euler_torque_spec : {M : Type 1} → statement M
slew_body_euler_torque_spec = tie.close (tie.spec (λ c κs. search rules) (λ c κs. search rules) returns)
