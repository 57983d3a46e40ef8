-- Quaternions, scalar first, in the order of operations of geom.rs. Definitions only.
use Rattle.std.specs.Prelude.{List, [], ◌∷◌, Bool, not, cond, ◌&&◌, ◌||◌, Float, Option, Some, None}
use Rattle.std.specs.Float.{binary64}
use Rattle.std.specs.Float.Ieee.{add, sub, mul, div, neg, lt, eq, of_bits}
use Rattle.std.specs.Float.Ieee.Scale.{finite}
use Rattle.common.specs.Floats.{one, plus_zero}
use Rattle.common.specs.Lists.{at}
use Rattle.float.specs.Ops.{abs, clamp}
use Rattle.float.specs.Sqrt.{sqrt}
use Rattle.angles.specs.Angles.{sin_of, cos_of}
use Rattle.angles.specs.Arcs.{acos_of}
use Rattle.geom.specs.Vec.{dot3, half, two, minus_one}
use Rattle.geom.specs.Halves.{on_both}
use Rattle.geom.specs.declared.Quat.{Quat}

-- the quaternion of four numbers, scalar part first
abbrev pub quat : Float → Float → Float → Float → Quat
quat w x y z = record { w = w; x = x; y = y; z = z }

-- the dot product of two quaternions
abbrev pub dot_q : Quat → Quat → Float
dot_q a b = add binary64 (add binary64 (add binary64 (mul binary64 a.w b.w) (mul binary64 a.x b.x)) (mul binary64 a.y b.y)) (mul binary64 a.z b.z)

-- the quaternion times a number
abbrev pub scale_q : Quat → Float → Quat
scale_q q s = quat (mul binary64 q.w s) (mul binary64 q.x s) (mul binary64 q.y s) (mul binary64 q.z s)

-- the quaternion times -1
abbrev pub negate_q : Quat → Quat
negate_q q = scale_q q minus_one

-- the conjugate: the vector part with its sign changed
abbrev pub conj : Quat → Quat
conj q = quat q.w (neg q.x) (neg q.y) (neg q.z)

-- Hamilton's product, scalar first
unfoldable pub quat_mul : Quat → Quat → Quat
quat_mul a b = record {
  w = sub binary64 (sub binary64 (sub binary64 (mul binary64 a.w b.w) (mul binary64 a.x b.x)) (mul binary64 a.y b.y)) (mul binary64 a.z b.z);
  x = sub binary64 (add binary64 (add binary64 (mul binary64 a.w b.x) (mul binary64 a.x b.w)) (mul binary64 a.y b.z)) (mul binary64 a.z b.y);
  y = add binary64 (add binary64 (sub binary64 (mul binary64 a.w b.y) (mul binary64 a.x b.z)) (mul binary64 a.y b.w)) (mul binary64 a.z b.x);
  z = add binary64 (sub binary64 (add binary64 (mul binary64 a.w b.z) (mul binary64 a.x b.y)) (mul binary64 a.y b.x)) (mul binary64 a.z b.w);
}

-- ---- lengths

-- the length of a vector
unfoldable pub norm3 : List Float → Float
norm3 v = sqrt binary64 (dot3 v v)

-- the length of a quaternion
unfoldable pub norm_q : Quat → Float
norm_q q = sqrt binary64 (dot_q q q)

-- are all four parts finite
abbrev pub finite_q : Quat → Bool
finite_q q = finite q.w && (finite q.x && (finite q.y && finite q.z))

-- 1e-18
abbrev pub least : Float
least = of_bits binary64 0x3c32_725d_d1d2_43ac

-- v over its length n; refused where n is below 1e-18 or not finite
unfoldable pub unit_by : List Float → Float → Option (Float × Float × Float)
unit_by v n =
    cond (lt n least || not (finite n)) None
    (Some (mul binary64 (at v 0) (div binary64 one n), mul binary64 (at v 1) (div binary64 one n), mul binary64 (at v 2) (div binary64 one n)))

-- the unit vector along v
abbrev pub unit3 : List Float → Option (Float × Float × Float)
unit3 v = unit_by v (norm3 v)

-- q over its length n; refused where n is plusZero, not finite, or further from 1 than the tolerance
unfoldable pub normal_by : Float → Quat → Float → Option Quat
normal_by tol q n =
    cond (eq n plus_zero || not (finite n)) None
    (cond (lt tol (abs (sub binary64 n one))) None
    (Some (scale_q q (div binary64 one n))))

-- q with length 1; refused also where a part is not finite
unfoldable pub normalized : Float → Quat → Option Quat
normalized tol q = cond (finite_q q) (normal_by tol q (norm_q q)) None

-- ---- the exponential and the logarithm

-- 1e-16: below this length the exponential halves its vector and the logarithm doubles its own
abbrev pub tiny : Float
tiny = of_bits binary64 0x3c9c_d2b2_97d8_89bc

-- the turn by the vector v of length n, from the sine and the cosine of n / 2
abbrev pub exp_of : List Float → Float → Float → Float → Option Quat
exp_of v n s c = Some (quat c (mul binary64 (at v 0) (div binary64 s n)) (mul binary64 (at v 1) (div binary64 s n)) (mul binary64 (at v 2) (div binary64 s n)))

-- the same from v and n alone; a short vector is halved
unfoldable pub exp_at : List Float → Float → Option Quat
exp_at v n =
    cond (lt n tiny)
    (Some (quat one (mul binary64 half (at v 0)) (mul binary64 half (at v 1)) (mul binary64 half (at v 2))))
    (on_both None (exp_of v n) (sin_of (mul binary64 half n)) (cos_of (mul binary64 half n)))

-- the turn by the rotation vector v
abbrev pub exp_so3 : List Float → Option Quat
exp_so3 v = exp_at v (norm3 v)

-- the vector part
abbrev pub part : Quat → List Float
part q = q.x ∷ q.y ∷ q.z ∷ []

-- the quaternion of the same turn whose scalar part is not below 0
abbrev pub upright : Quat → Quat
upright q = cond (lt q.w plus_zero) (negate_q q) q

-- the rotation vector of q, whose vector part has length n, from the half angle
abbrev pub log_by : Quat → Float → Option Float → Option (Float × Float × Float)
log_by q n None = None
log_by q n (Some a) =
    Some (mul binary64 q.x (div binary64 (mul binary64 two a) n), mul binary64 q.y (div binary64 (mul binary64 two a) n), mul binary64 q.z (div binary64 (mul binary64 two a) n))

-- the same from q and n alone; a short vector part is doubled
unfoldable pub log_at : Quat → Float → Option (Float × Float × Float)
log_at q n =
    cond (lt n tiny)
    (Some (mul binary64 two q.x, mul binary64 two q.y, mul binary64 two q.z))
    (log_by q n (acos_of (clamp minus_one one q.w)))

-- the rotation vector of an upright q
abbrev pub log_up : Quat → Option (Float × Float × Float)
log_up q = log_at q (norm3 (part q))

-- the rotation vector of q
unfoldable pub log_so3 : Quat → Option (Float × Float × Float)
log_so3 q = log_up (upright q)

-- the turn that takes the attitude q to r: the rotation vector of r as seen from q
abbrev pub rotation_between : Quat → Quat → Option (Float × Float × Float)
rotation_between q r = log_so3 (quat_mul (conj q) r)
