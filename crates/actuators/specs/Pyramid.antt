-- The Jacobian of a four-CMG pyramid and its measure of singularity, in the order of operations of actuators.rs. Definitions only.
use Rattle.std.specs.Prelude.{ℕ, false, List, [], ◌∷◌, Float, replicate, Option, Some, None, Result, Ok, Err}
use Rattle.std.specs.Float.{binary64, inf}
use Rattle.std.specs.Float.Ieee.{add, mul, neg}
use Rattle.common.specs.Lists.{at}
use Rattle.angles.specs.Both.{both_of}
use Rattle.geom.specs.Vec.{row, det3}
use Rattle.actuators.specs.declared.ActuatorMap.{ActuatorMap}
use Rattle.actuators.specs.declared.CmgPyramid.{CmgPyramid}
use Rattle.common.specs.declared.Refusal.{Refusal}
use Rattle.common.specs.Refusals.{refusal}
use Rattle.std.specs.Result.{result_unwrap_or}
use Rattle.common.specs.Floats.{plus_zero}

-- ---- the Jacobian

-- a Jacobian as twelve numbers, by rows, or its refusal
abbrev pub Jacobian : Type 0
Jacobian = Result (List Float) Refusal

-- an angle is outside the range of sine and cosine: 11
abbrev pub beyond : Jacobian
beyond = Err (refusal 11 0)

-- the twelve numbers, by rows, from the skew's sine and cosine and those of the gimbal angles
abbrev pub entries : Float → Float → Float → Float → Float → Float → Float → Float → Float → Float → List Float
entries sg cg s0 c0 s1 c1 s2 c2 s3 c3 =
    mul binary64 (neg cg) s0
    ∷ neg c1
    ∷ mul binary64 cg s2
    ∷ c3
    ∷ c0
    ∷ mul binary64 (neg cg) s1
    ∷ neg c2
    ∷ mul binary64 cg s3
    ∷ mul binary64 sg c0
    ∷ mul binary64 sg c1
    ∷ mul binary64 sg c2
    ∷ mul binary64 sg c3
    ∷ []

-- the Jacobian by what sine and cosine say of the four gimbal angles
abbrev pub pyramid_by : Float → Float → Option (Float × Float) → Option (Float × Float) → Option (Float × Float) → Option (Float × Float) → Jacobian
pyramid_by sg cg None b1 b2 b3 = beyond
pyramid_by sg cg (Some (s0, c0)) None b2 b3 = beyond
pyramid_by sg cg (Some (s0, c0)) (Some (s1, c1)) None b3 = beyond
pyramid_by sg cg (Some (s0, c0)) (Some (s1, c1)) (Some (s2, c2)) None = beyond
pyramid_by sg cg (Some (s0, c0)) (Some (s1, c1)) (Some (s2, c2)) (Some (s3, c3)) =
    Ok (entries sg cg s0 c0 s1 c1 s2 c2 s3 c3)

-- the Jacobian from the skew's sine and cosine and the gimbal angles d
unfoldable pub pyramid_from : Float → Float → List Float → Jacobian
pyramid_from sg cg d = pyramid_by sg cg (both_of (at d 0)) (both_of (at d 1)) (both_of (at d 2)) (both_of (at d 3))

abbrev pub skewed : Option (Float × Float) → List Float → Jacobian
skewed None d = beyond
skewed (Some (sg, cg)) d = pyramid_from sg cg d

-- the Jacobian A(δ) of a pyramid with this skew, such that the torque is -h A(δ) δ̇; or 11
unfoldable pub pyramid_a : Float → List Float → Jacobian
pyramid_a skew d = skewed (both_of skew) d

-- a Jacobian, +0 where it is refused
abbrev pub matrix_or_zeros : Jacobian → List Float
matrix_or_zeros j = result_unwrap_or j (replicate 12 plus_zero)

-- ---- its measure

-- the 3 by 4 matrix of twelve numbers
abbrev pub rows : List Float → List (List Float)
rows a =
    (at a 0 ∷ at a 1 ∷ at a 2 ∷ at a 3 ∷ [])
    ∷ (at a 4 ∷ at a 5 ∷ at a 6 ∷ at a 7 ∷ [])
    ∷ (at a 8 ∷ at a 9 ∷ at a 10 ∷ at a 11 ∷ [])
    ∷ []

-- the dot product of two rows of four
abbrev pub dot4 : List Float → List Float → Float
dot4 a b =
    add binary64
    (add binary64 (add binary64 (mul binary64 (at a 0) (at b 0)) (mul binary64 (at a 1) (at b 1))) (mul binary64 (at a 2) (at b 2)))
    (mul binary64 (at a 3) (at b 3))

-- row i of A Aᵀ
abbrev pub gram_row : List (List Float) → ℕ → List Float
gram_row a i = dot4 (row a i) (row a 0) ∷ dot4 (row a i) (row a 1) ∷ dot4 (row a i) (row a 2) ∷ []

-- A Aᵀ
unfoldable pub gram : List (List Float) → List (List Float)
gram a = gram_row a 0 ∷ gram_row a 1 ∷ gram_row a 2 ∷ []

-- the determinant of A Aᵀ for a made matrix
unfoldable pub singularity_of : List Float → Float
singularity_of a = det3 (gram (rows a))

abbrev pub measure_by : Jacobian → Option Float
measure_by (Err why) = None
measure_by (Ok a) = Some (singularity_of a)

-- a pyramid's measure at the gimbal angles d
unfoldable pub pyramid_measure : Float → List Float → Option Float
pyramid_measure skew d = measure_by (pyramid_a skew d)

abbrev pub singularity_by : Option CmgPyramid → List Float → Option Float
singularity_by None d = Some (inf false)
singularity_by (Some p) d = pyramid_measure p.skew_rad d

-- +infinity without a pyramid, else the determinant of A Aᵀ at the gimbal angles d, or 11
unfoldable pub singularity : ActuatorMap → List Float → Option Float
singularity m d = singularity_by m.cmgs d
