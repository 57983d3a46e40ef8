-- What code keeps on its way: a part's size; the numbers of an attitude, of a vector and of a sample, where all are inside. Definitions only.
use Rattle.std.specs.Prelude.{cond, List, [], ◌∷◌, Float, Option, Some, None, ℤ}
use Rattle.std.specs.Float.{binary64}
use Rattle.std.specs.Float.Ieee.{neg, lt, of_bits}
use Rattle.common.specs.Lists.{at}
use Rattle.geom.specs.declared.Quat.{Quat}
use Rattle.drive_numbers.specs.declared.Unit.TheVariants as Unit
use Rattle.samples.specs.declared.PathSample.{PathSample}
use Rattle.drive_numbers.specs.Numbers.{part}
use Rattle.drive_numbers.specs.Drive.{all, numbers, wholes, parts}

-- the size, with a zero's own sign
abbrev pub size : Float → Float
size x = cond (lt x (of_bits binary64 0)) (neg x) x

abbrev pub attitude : Quat → List (Option ℤ)
attitude q = part q.w Unit.Fine ∷ part q.x Unit.Fine ∷ part q.y Unit.Fine ∷ part q.z Unit.Fine ∷ []

abbrev pub vector : List Float → List (Option ℤ)
vector v = part (at v 0) Unit.Coarse ∷ part (at v 1) Unit.Coarse ∷ part (at v 2) Unit.Coarse ∷ []

-- the numbers, where all are inside
abbrev pub row_of : List (Option ℤ) → Option (List ℤ)
row_of ws = cond (all ws) (Some (numbers ws)) None

abbrev pub attitude_row : Quat → Option (List ℤ)
attitude_row q = row_of (attitude q)

abbrev pub vector_row : List Float → Option (List ℤ)
vector_row v = row_of (vector v)

abbrev pub sample_row : PathSample → Option (List ℤ)
sample_row s = row_of (wholes (parts s))
