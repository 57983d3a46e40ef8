-- The seed's decision, or one whose residual length is below the seed's. Definitions only.
use Rattle.std.specs.Prelude.{◌≡◌, List, T, Float}
use Rattle.std.specs.Float.Ieee.{lt}

-- z is the seed's decision, bit for bit, or of a smaller residual length: two lengths are compared as floats
pub data Better (residual : List Float → Float) (seed z : List Float) : Type 0 where
  same : z ≡ seed → Better residual seed z
  below : T (lt (residual z) (residual seed)) → Better residual seed z
