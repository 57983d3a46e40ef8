-- Symmetric positive definite tensors and inverses, in the order of operations of geom.rs. Definitions only.
use Rattle.std.specs.Prelude.{List, [], ◌∷◌, Bool, not, cond, ◌&&◌, ◌||◌, Float, Result, Ok, Err, replicate}
use Rattle.std.specs.Float.{binary64}
use Rattle.std.specs.Float.Ieee.{sub, div, lt, of_bits}
use Rattle.std.specs.Float.Ieee.Scale.{finite}
use Rattle.common.specs.Floats.{one, plus_zero}
use Rattle.common.specs.Lists.{at}
use Rattle.float.specs.Ops.{abs}
use Rattle.geom.specs.Vec.{row, minor, scale3, det3, is_positive_value}
use Rattle.geom.specs.Quats.{least}
use Rattle.common.specs.declared.Refusal.{Refusal}
use Rattle.common.specs.Refusals.{refusal}
use Rattle.std.specs.Result.{result_unwrap_or}

-- do two numbers differ by more than 1e-12
abbrev pub apart : Float → Float → Bool
apart a b = lt (of_bits binary64 0x3d71_9799_812d_ea11) (abs (sub binary64 a b))

-- are the numbers across the diagonal equal within 1e-12
abbrev pub symmetric : List (List Float) → Bool
symmetric j = not (apart (at (row j 0) 1) (at (row j 1) 0)) && (not (apart (at (row j 0) 2) (at (row j 2) 0)) && not (apart (at (row j 1) 2) (at (row j 2) 1)))

-- are the three leading minors above 0 and finite
abbrev pub definite : List (List Float) → Bool
definite j = is_positive_value (at (row j 0) 0) && (is_positive_value (minor (at (row j 0) 0) (at (row j 1) 1) (at (row j 0) 1) (at (row j 1) 0)) && is_positive_value (det3 j))

-- is the tensor symmetric and positive definite
unfoldable pub is_spd : List (List Float) → Bool
is_spd j = symmetric j && definite j

-- the first row of the adjugate
abbrev pub adjugate0 : List (List Float) → List Float
adjugate0 j =
    minor (at (row j 1) 1) (at (row j 2) 2) (at (row j 1) 2) (at (row j 2) 1)
    ∷ minor (at (row j 0) 2) (at (row j 2) 1) (at (row j 0) 1) (at (row j 2) 2)
    ∷ minor (at (row j 0) 1) (at (row j 1) 2) (at (row j 0) 2) (at (row j 1) 1)
    ∷ []

-- its second row
abbrev pub adjugate1 : List (List Float) → List Float
adjugate1 j =
    minor (at (row j 1) 2) (at (row j 2) 0) (at (row j 1) 0) (at (row j 2) 2)
    ∷ minor (at (row j 0) 0) (at (row j 2) 2) (at (row j 0) 2) (at (row j 2) 0)
    ∷ minor (at (row j 0) 2) (at (row j 1) 0) (at (row j 0) 0) (at (row j 1) 2)
    ∷ []

-- its third row
abbrev pub adjugate2 : List (List Float) → List Float
adjugate2 j =
    minor (at (row j 1) 0) (at (row j 2) 1) (at (row j 1) 1) (at (row j 2) 0)
    ∷ minor (at (row j 0) 1) (at (row j 2) 0) (at (row j 0) 0) (at (row j 2) 1)
    ∷ minor (at (row j 0) 0) (at (row j 1) 1) (at (row j 0) 1) (at (row j 1) 0)
    ∷ []

-- three rows as nine numbers
abbrev pub flat : List Float → List Float → List Float → List Float
flat a b c = at a 0 ∷ at a 1 ∷ at a 2 ∷ at b 0 ∷ at b 1 ∷ at b 2 ∷ at c 0 ∷ at c 1 ∷ at c 2 ∷ []

-- a tensor as nine numbers, by rows
abbrev pub flatten : List (List Float) → List Float
flatten j = flat (row j 0) (row j 1) (row j 2)

-- the adjugate times the number s, as nine numbers
unfoldable pub scaled_adjugate : List (List Float) → Float → List Float
scaled_adjugate j s = flat (scale3 (adjugate0 j) s) (scale3 (adjugate1 j) s) (scale3 (adjugate2 j) s)

-- the answer without an inverse: refusal 6
abbrev pub no_inverse : Result (List Float) Refusal
no_inverse = Err (refusal 6 0)

-- the inverse of j, whose determinant is d; refused where d is not finite or below 1e-18 in size
unfoldable pub inverse_by : List (List Float) → Float → Result (List Float) Refusal
inverse_by j d = cond (not (finite d) || lt (abs d) least) no_inverse (Ok (scaled_adjugate j (div binary64 one d)))

-- the inverse of j, as nine numbers
abbrev pub invert3 : List (List Float) → Result (List Float) Refusal
invert3 j = inverse_by j (det3 j)

-- the inverse of an inertia tensor, which has to be symmetric and positive definite
unfoldable pub invert_spd : List (List Float) → Result (List Float) Refusal
invert_spd j = cond (is_spd j) (invert3 j) no_inverse

-- an inverse, +0 where there is none
abbrev pub inverse_or_zeros : Result (List Float) Refusal → List Float
inverse_or_zeros i = result_unwrap_or i (replicate 9 plus_zero)
