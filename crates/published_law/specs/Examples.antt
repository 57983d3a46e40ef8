-- The two laws apart: one wheel at rest about x, a rate of 1 about x and a stored momentum of 1 about y. Assumes nothing.
use Rattle.std.specs.Prelude.{◌≡◌, refl, List, [], ◌∷◌, Float}
use Rattle.std.specs.Float.Ieee.{add, sub, mul, neg, of_bits}
use Rattle.common.specs.Floats as Floats
use Rattle.common.specs.Iter.{iter}
use Rattle.geom.specs.Vec as Vec
use Rattle.control_rows.specs.Parts.{wheel_part}
use Rattle.control_rows.specs.declared.WheelLaw.{WheelLaw}
use Rattle.control_rows.specs.declared.WheelLaw.TheVariants.{Once, Published}

abbrev torque : WheelLaw → List Float
torque law = wheel_part law (Floats.one ∷ Floats.plus_zero ∷ Floats.plus_zero ∷ []) 1 (Floats.plus_zero ∷ []) (Floats.one ∷ Floats.plus_zero ∷ Floats.plus_zero ∷ []) (Floats.plus_zero ∷ Floats.one ∷ Floats.plus_zero ∷ []) Vec.zero3

-- three +0, not -0: the sum begins at +0
one_term : torque Once ≡ Vec.zero3
unfolding wheel_part iter add sub mul neg of_bits
one_term = refl

two_terms : torque Published ≡ Floats.plus_zero ∷ Floats.plus_zero ∷ Vec.minus_one ∷ []
unfolding wheel_part iter add sub mul neg of_bits
two_terms = refl
