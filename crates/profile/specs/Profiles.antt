-- The eigenaxis profile of a slew: full acceleration, a coast at the top rate, full deceleration. As in lib.rs, one rounding an operation. Definitions only.
use Rattle.std.specs.Prelude.{Bool, not, cond, ◌||◌, List, [], ◌∷◌, Float, Option, Some, None, Err, Result, Ok}
use Rattle.std.specs.Float.{binary64}
use Rattle.std.specs.Float.Ieee.{add, sub, mul, div, neg, lt, le, of_bits}
use Rattle.std.specs.Float.Ieee.Scale.{finite}
use Rattle.common.specs.Floats.{one, plus_zero}
use Rattle.common.specs.Lists.{at}
use Rattle.float.specs.Ops.{abs, min, clamp}
use Rattle.float.specs.Sqrt.{sqrt}
use Rattle.angles.specs.Angles.{sin_of, cos_of}
use Rattle.angles.specs.Arcs.{acos_of}
use Rattle.geom.specs.declared.Quat.{Quat}
use Rattle.geom.specs.Vec.{zero3, half, two, minus_one, is_positive_value, scale3, tensor, apply_tensor, body_euler_torque}
use Rattle.geom.specs.Halves.{on_both}
use Rattle.geom.specs.Quats.{quat, dot_q, negate_q, conj, quat_mul, norm3, part, least}
use Rattle.geom.specs.Tensors.{flatten}
use Rattle.profile.specs.declared.Profile.{Profile}
use Rattle.profile.specs.declared.Profiled.{Profiled}
use Rattle.common.specs.Refusals.{Fate, refusal, going}
use Rattle.common.specs.declared.Refusal.{Refusal}

-- ---- a profile at a time

-- where the deceleration starts
abbrev pub slows : Profile → Float
slows p = add binary64 p.t_acc p.t_coast

-- 0.5 a x x
abbrev pub half_square : Float → Float → Float
half_square a x = mul binary64 (mul binary64 (mul binary64 half a) x) x

-- the angle turned
unfoldable pub angle : Profile → Float → Float
angle p t =
    cond (le t p.t_acc) (half_square p.alpha t)
    (cond (le t (slows p))
    (add binary64 (half_square p.alpha p.t_acc) (mul binary64 p.omega_peak (sub binary64 t p.t_acc)))
    (sub binary64 p.theta (half_square p.alpha (sub binary64 p.t_acc (sub binary64 t (slows p))))))

-- the rate about the axis
unfoldable pub rate : Profile → Float → Float
rate p t =
    cond (le t p.t_acc) (mul binary64 p.alpha t)
    (cond (le t (slows p)) p.omega_peak
    (sub binary64 p.omega_peak (mul binary64 p.alpha (sub binary64 t (slows p)))))

-- the acceleration about the axis: full, none, full the other way, none after the end
unfoldable pub alpha_signed : Profile → Float → Float
alpha_signed p t =
    cond (lt t p.t_acc) p.alpha
    (cond (lt t (slows p)) plus_zero
    (cond (le t p.duration) (neg p.alpha) plus_zero))

-- the body rate
abbrev pub omega_vec : Profile → Float → List Float
omega_vec p t = scale3 p.axis (rate p t)

-- the body torque
unfoldable pub torque_vec : Profile → Float → List Float
torque_vec p t = body_euler_torque (tensor p.inertia) p.axis (alpha_signed p t) (rate p t) zero3

-- the attitude from the sine and the cosine of half the angle
abbrev pub quaternion_of : Profile → Float → Float → Option Quat
quaternion_of p s c =
    Some (quat_mul p.q0 (quat c (mul binary64 (at p.axis 0) s) (mul binary64 (at p.axis 1) s) (mul binary64 (at p.axis 2) s)))

-- the attitude
unfoldable pub quaternion : Profile → Float → Option Quat
quaternion p t = on_both None (quaternion_of p) (sin_of (mul binary64 half (angle p t))) (cos_of (mul binary64 half (angle p t)))

-- ---- the acceleration that the torque box allows

-- 1e-15
abbrev pub negligible : Float
negligible = of_bits binary64 0x3cd2_03af_9ee7_5616

-- the acceleration a so far, or what the limit l allows about an axis that asks the torque n of each unit of acceleration
unfoldable pub box_turn : Float → Float → Float → Float
box_turn a n l = cond (le (abs n) negligible) a (min a (div binary64 l (abs n)))

-- the least over three axes, from infinity
abbrev pub box_alpha : List Float → List Float → Float
box_alpha n l = box_turn (box_turn (box_turn (of_bits binary64 0x7ff0_0000_0000_0000) (at n 0) (at l 0)) (at n 1) (at l 1)) (at n 2) (at l 2)

-- an acceleration is finite and above 0
unfoldable pub acceleration_of : Float → Option Float
acceleration_of a = cond (is_positive_value a) (Some a) None

-- the acceleration about an axis within the torque limits
abbrev pub alpha_from_box : List (List Float) → List Float → List Float → Option Float
alpha_from_box j axis limit = acceleration_of (box_alpha (apply_tensor j axis) limit)

-- ---- the switch times: the acceleration's length, the coast's length, the top rate

-- a coast is finite and not below 0
unfoldable pub coasting : Float → Float → Float → Result (Float × Float × Float) Refusal
coasting acc coast limit = cond (not (finite coast) || lt coast plus_zero) (Err (refusal 7 2)) (Ok (acc, coast, limit))

-- with a slew limit: without a coast where the top rate is within it
unfoldable pub limited : Float → Float → Float → Float → Float → Result (Float × Float × Float) Refusal
limited theta alpha bang peak limit =
    cond (is_positive_value limit)
    (cond (le peak limit) (Ok (bang, plus_zero, peak))
    (coasting (div binary64 limit alpha) (div binary64 (sub binary64 theta (div binary64 (mul binary64 limit limit) alpha)) limit) limit))
    (Err (refusal 4 0))

-- with or without one
abbrev pub switch_by : Float → Float → Float → Option Float → Result (Float × Float × Float) Refusal
switch_by theta alpha bang None = Ok (bang, plus_zero, mul binary64 alpha bang)
switch_by theta alpha bang (Some limit) = limited theta alpha bang (mul binary64 alpha bang) limit

-- the switch times of a turn by theta
unfoldable pub switch_times : Float → Float → Option Float → Result (Float × Float × Float) Refusal
switch_times theta alpha slew = switch_by theta alpha (sqrt binary64 (div binary64 theta alpha)) slew

-- ---- the whole profile, stage by stage

-- the profile of all zeros, which stands beside a refusal
abbrev pub blank : Profile
blank = record {
  theta = plus_zero;
  alpha = plus_zero;
  t_acc = plus_zero;
  t_coast = plus_zero;
  duration = plus_zero;
  omega_peak = plus_zero;
  axis = zero3;
  inertia = plus_zero ∷ plus_zero ∷ plus_zero ∷ plus_zero ∷ plus_zero ∷ plus_zero ∷ plus_zero ∷ plus_zero ∷ plus_zero ∷ [];
  q0 = quat plus_zero plus_zero plus_zero plus_zero;
}

-- no profile: refusal 7 and its place
abbrev pub refused : Fate → Profiled
refused f = record { fate = f; profile = blank }

-- with the switch times
abbrev pub with_switches : Quat → List (List Float) → List Float → Float → Float → Result (Float × Float × Float) Refusal → Profiled
with_switches q0 j axis theta alpha (Err why) = refused (Err why)
with_switches q0 j axis theta alpha (Ok (acc, coast, peak)) = record {
  fate = going;
  profile = record {
    theta = theta;
    alpha = alpha;
    t_acc = acc;
    t_coast = coast;
    duration = add binary64 (mul binary64 two acc) coast;
    omega_peak = peak;
    axis = axis;
    inertia = flatten j;
    q0 = q0;
  };
}

-- with the acceleration; 7 at place 2 without one
abbrev pub with_alpha : Quat → List (List Float) → List Float → Float → Option Float → Option Float → Profiled
with_alpha q0 j axis theta slew None = refused (Err (refusal 7 2))
with_alpha q0 j axis theta slew (Some alpha) = with_switches q0 j axis theta alpha (switch_times theta alpha slew)

-- with the angle, which has to be finite and above 0
unfoldable pub with_theta : Quat → List (List Float) → List Float → Float → List Float → Option Float → Profiled
with_theta q0 j axis theta limit slew =
    cond (is_positive_value theta) (with_alpha q0 j axis theta slew (alpha_from_box j axis limit)) (refused (Err (refusal 7 0)))

-- the vector part of rel over its length n
abbrev pub axis_of : Quat → Float → List Float
axis_of rel n = div binary64 rel.x n ∷ div binary64 rel.y n ∷ div binary64 rel.z n ∷ []

-- with the half angle; 11 where the arc cosine refuses
abbrev pub with_half : Quat → List (List Float) → List Float → List Float → Option Float → Option Float → Profiled
with_half q0 j axis limit slew None = refused (Err (refusal 11 0))
with_half q0 j axis limit slew (Some a) = with_theta q0 j axis (mul binary64 two a) limit slew

-- with the relative attitude, whose vector part has length n and whose scalar part is d within -1 to 1: no zero angle, no half turn
unfoldable pub with_relative : Quat → List (List Float) → List Float → Option Float → Float → Quat → Float → Float → Profiled
with_relative q0 j limit slew tie rel n d =
    cond (lt n least) (refused (Err (refusal 7 0)))
    (cond (le (abs d) tie) (refused (Err (refusal 7 1)))
    (with_half q0 j (axis_of rel n) limit slew (acos_of d)))

-- the attitude qf seen from q0, the shorter way round
unfoldable pub relative : Quat → Quat → Quat
relative q0 qf = quat_mul (conj q0) (cond (lt (dot_q q0 qf) plus_zero) (negate_q qf) qf)

-- the profile from q0 to qf
unfoldable pub bang_coast_bang : Quat → Quat → List (List Float) → List Float → Option Float → Float → Profiled
bang_coast_bang q0 qf j limit slew tie =
    with_relative q0 j limit slew tie (relative q0 qf) (norm3 (part (relative q0 qf))) (clamp minus_one one (relative q0 qf).w)
