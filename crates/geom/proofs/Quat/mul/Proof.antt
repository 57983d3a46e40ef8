-- `Quat::mul` is Hamilton's product: each part's products and sums stand in the definition's order.
use mathlib.Core.Path.{refl}
use Rattle.geom.specs.Quats.{quat_mul}
use Rattle.geom.proofs.Quat.mul.Statement.{statement}
use Rattle.geom.proofs.Quat.mul.Tie as tie

returns : tie.Need-returns
unfolding quat_mul
returns c = refl

pub mul_spec : {M : Type 1} → statement M
mul_spec = tie.close (tie.spec returns)
