-- geom's product and dot product are the rule and the squared length at the operations of binary64. Assumes nothing.
use Rattle.std.specs.Prelude.{◌≡◌, refl}
use Rattle.std.specs.Float.{binary64}
use Rattle.std.specs.Float.Ieee.{add, sub, mul}
use Rattle.geom.specs.declared.Quat.{Quat}
use Rattle.geom.specs.Quats.{quat_mul, dot_q}
use Rattle.quat_laws.specs.Product.{hamilton, squared_length, parts, from_parts}

pub product_rounded : (a b : Quat) → quat_mul a b ≡ from_parts (hamilton (add binary64) (sub binary64) (mul binary64) (parts a) (parts b))
unfolding quat_mul
product_rounded a b = refl

pub squared_length_rounded : (q : Quat) → dot_q q q ≡ squared_length (add binary64) (mul binary64) (parts q)
squared_length_rounded q = refl
