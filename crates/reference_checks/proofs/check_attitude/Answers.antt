use Rattle.std.specs.Float.Ieee.{of_bits}
use Rattle.reference_checks.specs.Checks.{check_attitude}
use Rattle.reference_checks.proofs.check_attitude.Goals as goal

pub returns-in_default : goal.returns-in_default
unfolding check_attitude
returns-in_default c = rw (← c.rotation_vector.ensures, c.in_default.is)

pub returns-then-norm3 : goal.returns-then-norm3
unfolding check_attitude of_bits
returns-then-norm3 c = rw (← c.rotation_vector.ensures, c.in-Some.is, ← c.norm3.ensures, c.if-norm3.true)

pub returns-else-norm3 : goal.returns-else-norm3
unfolding check_attitude of_bits
returns-else-norm3 c = rw (← c.rotation_vector.ensures, c.in-Some.is, ← c.norm3.ensures, c.if-norm3.false)
