-- The skew's sine and cosine may be made once. Assumes nothing.
use Rattle.std.specs.Prelude.{◌≡◌, List, Float, Option, Some}
use Rattle.std.proofs.Common.{ap}
use Rattle.angles.specs.Both.{both_of}
use Rattle.actuators.specs.Pyramid.{pyramid_from, skewed, pyramid_a}

-- the Jacobian from them is the plain one
pub pyramid_once : (skew sg cg : Float) (d : List Float) → both_of skew ≡ Some (sg, cg) → pyramid_a skew d ≡ pyramid_from sg cg d
unfolding pyramid_a
pyramid_once skew sg cg d e = ap (λ (b : Option (Float × Float)). skewed b d) e
