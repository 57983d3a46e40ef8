use native.Mathlib.Omega.{arith}
use Rattle.reference_motion.proofs.to_float.Goals as goal
use Prim.Native.Nat.{◌^◌}
use lib.Ieee as Ieee
use lib.Dec.{le→leb}
use mir.Facts.{to_z_pos}
use mir.Syntax.{w64}

pub int_to_float-result : goal.int_to_float-result
unfolding Ieee.in_float
int_to_float-result c = rw (to_z_pos w64 {n = c.args.n} (omega arith)) (le→leb c.args.n (2 ^ 53) (omega arith))

pub returns : goal.returns
returns c = rw (to_z_pos w64 {n = c.args.n} (omega arith))
