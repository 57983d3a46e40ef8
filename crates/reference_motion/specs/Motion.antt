-- A smooth rotation about one axis: its shape, its rotation vector, rate and acceleration, one rounding an operation. Definitions only.
use Rattle.std.specs.Prelude.{ℕ, List, [], ◌∷◌, pos, Float, Option, Some, None}
use Rattle.std.specs.Float.{binary64}
use Rattle.std.specs.Float.Ieee.{add, sub, mul, div, of_int, of_bits}
use Rattle.common.specs.Floats.{one}
use Rattle.common.specs.Lists.{at}
use Rattle.geom.specs.Vec.{scale3, half, two}
use Rattle.geom.specs.Quats.{conj, quat_mul, exp_so3, rotation_between}
use Rattle.geom.specs.declared.Quat.{Quat}
use Rattle.reference_motion.specs.declared.Reference.{Reference}

-- ---- time

-- a count as a float
abbrev pub to_float : ℕ → Float
to_float n = of_int binary64 (pos n)

-- the fraction of the duration at sample k of n
unfoldable pub fraction : ℕ → ℕ → Float
fraction k n = div binary64 (to_float k) (to_float n)

-- the fraction of the duration in the middle of step k of n
unfoldable pub mid_fraction : ℕ → ℕ → Float
mid_fraction k n = div binary64 (add binary64 (to_float k) half) (to_float n)

-- ---- the shape s(x) = x³ (10 - 15 x + 6 x²), s'(x) = 30 x² (1 - x)², s''(x) = 60 x (1 - x) (1 - 2 x)

abbrev pub ten : Float
ten = of_bits binary64 0x4024_0000_0000_0000

abbrev pub fifteen : Float
fifteen = of_bits binary64 0x402e_0000_0000_0000

abbrev pub six : Float
six = of_bits binary64 0x4018_0000_0000_0000

abbrev pub thirty : Float
thirty = of_bits binary64 0x403e_0000_0000_0000

abbrev pub sixty : Float
sixty = of_bits binary64 0x404e_0000_0000_0000

unfoldable pub shape : Float → Float
shape x = mul binary64 (mul binary64 (mul binary64 x x) x) (add binary64 (sub binary64 ten (mul binary64 fifteen x)) (mul binary64 (mul binary64 six x) x))

unfoldable pub shape_rate : Float → Float
shape_rate x = mul binary64 (mul binary64 thirty (mul binary64 x x)) (mul binary64 (sub binary64 one x) (sub binary64 one x))

unfoldable pub shape_acceleration : Float → Float
shape_acceleration x = mul binary64 (mul binary64 (mul binary64 sixty x) (sub binary64 one x)) (sub binary64 one (mul binary64 two x))

-- ---- the rotation vector from q0 to qf

-- phi plus what is left of the rotation, about the same axis: 2 w v is the sine of its angle times the axis, for either sign of the quaternion
abbrev pub add_remainder : List Float → Quat → Float × Float × Float
add_remainder phi left =
    (add binary64 (at phi 0) (mul binary64 (mul binary64 two left.w) left.x), add binary64 (at phi 1) (mul binary64 (mul binary64 two left.w) left.y), add binary64 (at phi 2) (mul binary64 (mul binary64 two left.w) left.z))

-- what is left of q after the rotation `done` by phi is added to phi
unfoldable pub correct_log : List Float → Quat → Quat → Float × Float × Float
correct_log phi q done = add_remainder phi (quat_mul (conj done) q)

abbrev pub refine_log_by : Option Quat → List Float → Quat → Option (Float × Float × Float)
refine_log_by None phi q = None
refine_log_by (Some done) phi q = Some (correct_log phi q done)

unfoldable pub refine_log : List Float → Quat → Option (Float × Float × Float)
refine_log phi q = refine_log_by (exp_so3 phi) phi q

abbrev pub rotation_vector_by : Option (Float × Float × Float) → Quat → Option (Float × Float × Float)
rotation_vector_by None q = None
rotation_vector_by (Some (x, y, z)) q = refine_log (x ∷ y ∷ z ∷ []) q

-- the rotation vector from q0 to qf: the logarithm, then one correction
unfoldable pub rotation_vector : Quat → Quat → Option (Float × Float × Float)
rotation_vector q0 qf = rotation_vector_by (rotation_between q0 qf) (quat_mul (conj q0) qf)

-- ---- the motion at the fraction x of the duration

unfoldable pub rotation_at : Reference → Float → Option Quat
rotation_at r x = exp_so3 (scale3 r.phi (shape x))

unfoldable pub rate_at : Reference → Float → List Float
rate_at r x = scale3 r.phi (div binary64 (shape_rate x) r.duration)

unfoldable pub acceleration_at : Reference → Float → List Float
acceleration_at r x = scale3 r.phi (div binary64 (shape_acceleration x) (mul binary64 r.duration r.duration))
