-- Which controls give a body torque, in the order of operations of actuators.rs. Definitions only.
use Rattle.std.specs.Prelude.{ℕ, Bool, cond, ◌&&◌, List, [], ◌∷◌, eqb, leb, Float, replicate, Option, Some, None, Result, Ok, Err}
use Rattle.std.specs.Float.{binary64}
use Rattle.std.specs.Float.Ieee.{add, mul, div}
use Rattle.common.specs.Floats.{plus_zero}
use Rattle.common.specs.Lists.{at}
use Rattle.geom.specs.Vec.{row, minus_one, scale3, tensor, apply_tensor}
use Rattle.geom.specs.Tensors.{invert3}
use Rattle.actuators.specs.declared.CmgPyramid.{CmgPyramid}
use Rattle.actuators.specs.declared.ActuatorMap.{ActuatorMap}
use Rattle.actuators.specs.Maps.{is_empty}
use Rattle.actuators.specs.Pyramid.{Jacobian, rows, gram, pyramid_a}
use Rattle.common.specs.declared.Refusal.{Refusal}
use Rattle.common.specs.Refusals.{refusal}
use Rattle.std.specs.Result.{result_unwrap_or}

-- ---- rows

-- a row of 20 numbers, of which as many count as the map has controls, or its refusal
abbrev pub Allocated : Type 0
Allocated = Result (List Float) Refusal

-- a refusal: its number and place
abbrev pub unserved : ℕ → ℕ → Allocated
unserved n place = Err (refusal n place)

-- a row, +0 where it is refused
abbrev pub row_or_zeros : Allocated → List Float
row_or_zeros r = result_unwrap_or r (replicate 20 plus_zero)

-- three controls; past them stands +0
abbrev pub three : List Float → List Float
three v = at v 0 ∷ at v 1 ∷ at v 2 ∷ replicate 17 plus_zero

-- column k of a 3 by 4 matrix times y
abbrev pub column : List (List Float) → ℕ → List Float → Float
column a k y =
    add binary64
    (add binary64 (mul binary64 (at (row a 0) k) (at y 0)) (mul binary64 (at (row a 1) k) (at y 1)))
    (mul binary64 (at (row a 2) k) (at y 2))

-- four gimbal rates, Aᵀ y; past them stands +0
abbrev pub four : List (List Float) → List Float → List Float
four a y = column a 0 y ∷ column a 1 y ∷ column a 2 y ∷ column a 3 y ∷ replicate 16 plus_zero

-- ---- wheels or thrusters alone

-- the first three axes of a flat table as the columns of a matrix
abbrev pub columns : List Float → List (List Float)
columns t = (at t 0 ∷ at t 3 ∷ at t 6 ∷ []) ∷ (at t 1 ∷ at t 4 ∷ at t 7 ∷ []) ∷ (at t 2 ∷ at t 5 ∷ at t 8 ∷ []) ∷ []

abbrev pub along_by : Result (List Float) Refusal → List Float → Allocated
along_by (Err why) v = unserved 6 1
along_by (Ok inverse) v = Ok (three (apply_tensor (tensor inverse) v))

-- the three controls that the matrix of their axes takes to v; 6 at place 1 where it has no inverse
unfoldable pub along_axes : List (List Float) → List Float → Allocated
along_axes a v = along_by (invert3 a) v

-- three or more of a kind, and none of the other
abbrev pub alone : ℕ → ℕ → Bool
alone n others = leb 3 n && eqb others 0

-- no pyramid: wheels alone turn the body the other way, thrusters alone push it; else 8
unfoldable pub axes_alone : ActuatorMap → List Float → Allocated
axes_alone m tau =
    cond (alone m.wheel_count m.thruster_count) (along_axes (columns m.wheel_axes) (scale3 tau minus_one))
    (cond (alone m.thruster_count m.wheel_count) (along_axes (columns m.thruster_axes) tau) (unserved 8 0))

-- ---- a pyramid alone

abbrev pub least_by_value : Result (List Float) Refusal → List (List Float) → List Float → Allocated
least_by_value (Err why) a v = unserved 6 1
least_by_value (Ok inverse) a v = Ok (four a (apply_tensor (tensor inverse) v))

-- the shortest gimbal rates that A takes to v, Aᵀ (A Aᵀ)⁻¹ v; 6 at place 1 where A Aᵀ has no inverse
unfoldable pub least_rates : List (List Float) → List Float → Allocated
least_rates a v = least_by_value (invert3 (gram a)) a v

abbrev pub pyramid_alone_by : Jacobian → CmgPyramid → List Float → Allocated
pyramid_alone_by (Err why) p tau = Err why
pyramid_alone_by (Ok a) p tau = least_rates (rows a) (scale3 tau (div binary64 minus_one p.wheel_momentum_nms))

-- a pyramid alone, its gimbals at +0; 11 where the skew is outside the range of sine and cosine, which no prepared map's is
unfoldable pub pyramid_alone : CmgPyramid → List Float → Allocated
pyramid_alone p tau = pyramid_alone_by (pyramid_a p.skew_rad (replicate 4 plus_zero)) p tau

-- ---- the whole

abbrev pub served_by : Option CmgPyramid → ActuatorMap → List Float → Allocated
served_by None m tau = axes_alone m tau
served_by (Some p) m tau = cond (eqb m.wheel_count 0 && eqb m.thruster_count 0) (pyramid_alone p tau) (unserved 8 0)

-- The row of controls that gives the body torque tau, or 8 for actuators that are not served, 6 or 11. Only the first three axes are read, so that a map that is
-- not sized has an answer too; what it is there is free.
unfoldable pub allocate : ActuatorMap → List Float → Allocated
allocate m tau = cond (is_empty m) (Ok (three tau)) (served_by m.cmgs m tau)
