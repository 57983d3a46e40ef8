-- `body_euler_torque` puts its calls together as the definition does. Assumes nothing.
use borrow.Author.Rules.{rules}
use Rattle.geom.specs.Vec.{body_euler_torque}
use Rattle.geom.proofs.body_euler_torque.Statement.{statement}
use Rattle.geom.proofs.body_euler_torque.Tie as tie

returns : tie.Need-returns
unfolding body_euler_torque
returns c = rw (c.euler_lhs.ensures, c.scale3-2.ensures, c.scale3.ensures)

pub body_euler_torque_spec : {M : Type 1} → statement M
body_euler_torque_spec = tie.close (tie.spec (λ c κs. search rules) (λ c κs. search rules) (λ c κs. search rules) returns)
