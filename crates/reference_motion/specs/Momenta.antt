-- Wheel momenta by the conservation of the total angular momentum, A h = Rᵀ H₀ - J w; controls; a sample. One rounding an operation. Definitions only.
use Rattle.std.specs.Prelude.{ℕ, cond, List, [], ◌∷◌, replicate, Float, Option, Some, None, Err}
use Rattle.std.specs.Float.{binary64}
use Rattle.std.specs.Float.Ieee.{add, sub, mul, div}
use Rattle.common.specs.Floats.{plus_zero}
use Rattle.common.specs.Iter.{iter}
use Rattle.common.specs.Lists.{at}
use Rattle.geom.specs.Vec.{add3, sub3, scale3, cross, dot3, tensor, apply_tensor, euler_lhs, two, zero3}
use Rattle.geom.specs.Quats.{quat_mul, part}
use Rattle.geom.specs.declared.Quat.{Quat}
use Rattle.actuators.specs.Maps.{axis_at}
use Rattle.control_rows.specs.Parts.{axes}
use Rattle.control_rows.specs.Stored.{stored}
use Rattle.reference_motion.specs.declared.Reference.{Reference}
use Rattle.reference_motion.specs.declared.Sample.{Sample}
use Rattle.reference_motion.specs.Motion.{to_float, mid_fraction, shape, rotation_at, rate_at, acceleration_at}
use Rattle.common.specs.Refusals.{refusal, going}

-- ---- from space to the body

abbrev pub to_body_by : List Float → Float → List Float → List Float → List Float
to_body_by u w v t = add3 (sub3 v (scale3 t w)) (cross u t)

-- Rᵀ v for the rotation q = (w, u): with t = 2 u × v it is v - w t + u × t
unfoldable pub rotate_to_body : Quat → List Float → List Float
rotate_to_body q v = to_body_by (part q) q.w v (scale3 (cross (part q) v) two)

-- ---- the axes A: their Gram matrix A Aᵀ, their pseudo-inverse A⁺ = Aᵀ (A Aᵀ)⁻¹

-- the product of two numbers, added to e
abbrev plus_product : Float → Float → Float → Float
plus_product e x y = add binary64 e (mul binary64 x y)

-- the outer product of a vector with itself, added to g
abbrev pub plus_outer : List Float → List Float → List Float
plus_outer g a =
    plus_product (at g 0) (at a 0) (at a 0)
    ∷ plus_product (at g 1) (at a 0) (at a 1)
    ∷ plus_product (at g 2) (at a 0) (at a 2)
    ∷ plus_product (at g 3) (at a 1) (at a 0)
    ∷ plus_product (at g 4) (at a 1) (at a 1)
    ∷ plus_product (at g 5) (at a 1) (at a 2)
    ∷ plus_product (at g 6) (at a 2) (at a 0)
    ∷ plus_product (at g 7) (at a 2) (at a 1)
    ∷ plus_product (at g 8) (at a 2) (at a 2)
    ∷ []

abbrev pub gram_turn : List Float → ℕ → List Float → List Float
gram_turn axes k g = plus_outer g (axis_at axes k)

-- A Aᵀ of n axes, by rows
unfoldable pub gram_matrix : List Float → ℕ → List Float
gram_matrix axes n = iter (gram_turn axes) (replicate 9 plus_zero) n

-- the dot product of axis k and y, added to x
abbrev pub plus_projection : List Float → List Float → ℕ → Float → Float
plus_projection axes y k x = add binary64 x (dot3 (axis_at axes k) y)

unfoldable pub add_projections : List Float → List Float → ℕ → List Float → List Float
add_projections start axes n y = stored (plus_projection axes y) start n

-- start + A⁺ v over n axes, with the inverse of A Aᵀ
unfoldable pub allocate : List Float → ℕ → List Float → List Float → List Float → List Float
allocate axes n inverse start v = add_projections start axes n (apply_tensor (tensor inverse) v)

-- A u
unfoldable pub body_vector : List Float → ℕ → List Float → List Float
body_vector table n u = axes table u zero3 n

-- ---- the wheels' momenta

-- Rᵀ H₀ - J w
unfoldable pub required_momentum : Reference → Quat → List Float → List Float
required_momentum r q w = sub3 (rotate_to_body q r.total) (apply_tensor (tensor r.inertia) w)

abbrev less_scaled : List Float → List Float → Float → ℕ → Float
less_scaled a b s k = sub binary64 (at a k) (mul binary64 s (at b k))

-- a - s b
unfoldable pub subtract_scaled : List Float → List Float → Float → List Float
subtract_scaled a b s =
    less_scaled a b s 0
    ∷ less_scaled a b s 1
    ∷ less_scaled a b s 2
    ∷ less_scaled a b s 3
    ∷ less_scaled a b s 4
    ∷ less_scaled a b s 5
    ∷ less_scaled a b s 6
    ∷ less_scaled a b s 7
    ∷ less_scaled a b s 8
    ∷ less_scaled a b s 9
    ∷ less_scaled a b s 10
    ∷ less_scaled a b s 11
    ∷ []

-- h₀ - s ν + A⁺ (Rᵀ H₀ - J w - H₀), with ν the null-space part of h₀, which exerts no momentum on the body and is given up on the way; without wheels what the record has
unfoldable pub momenta_at : Reference → Quat → List Float → Float → List Float
momenta_at r q w s =
    cond r.wheels
    (allocate r.axes r.count r.inverse (subtract_scaled r.start r.null_momenta s) (sub3 (required_momentum r q w) r.total))
    r.start

-- ---- a sample

abbrev pub sample_by : Option Quat → Reference → Float → Sample
sample_by None r x = record { fate = Err (refusal 11 0); q = r.q0; rotation = r.q0; w = rate_at r x; a = acceleration_at r x; h = r.start }
sample_by (Some t) r x = record { fate = going; q = quat_mul r.q0 t; rotation = t; w = rate_at r x; a = acceleration_at r x; h = momenta_at r t (rate_at r x) (shape x) }

unfoldable pub sample_at : Reference → Float → Sample
sample_at r x = sample_by (rotation_at r x) r x

-- ---- controls of a step

abbrev torque_of : List Float → List Float → Float → ℕ → Float
torque_of a b dt k = div binary64 (sub binary64 (at b k) (at a k)) dt

-- the wheels' torques over a step that takes their momenta from a to b: (b - a) / dt
unfoldable pub wheel_torques_value : List Float → List Float → Float → List Float
wheel_torques_value a b dt =
    torque_of a b dt 0
    ∷ torque_of a b dt 1
    ∷ torque_of a b dt 2
    ∷ torque_of a b dt 3
    ∷ torque_of a b dt 4
    ∷ torque_of a b dt 5
    ∷ torque_of a b dt 6
    ∷ torque_of a b dt 7
    ∷ torque_of a b dt 8
    ∷ torque_of a b dt 9
    ∷ torque_of a b dt 10
    ∷ torque_of a b dt 11
    ∷ []

-- A⁺ (J a + w × (J w)) at the fraction x of the duration
unfoldable pub thrusts_at : Reference → Float → List Float
thrusts_at r x = allocate r.axes r.count r.inverse (replicate 12 plus_zero) (euler_lhs (tensor r.inertia) (acceleration_at r x) (rate_at r x) zero3)

-- the wheels' torques over step k, from momenta a to b; else the thrusts in the middle of the step
unfoldable pub controls : Reference → ℕ → List Float → List Float → List Float
controls r k a b = cond r.wheels (wheel_torques_value a b (div binary64 r.duration (to_float r.steps))) (thrusts_at r (mid_fraction k r.steps))
