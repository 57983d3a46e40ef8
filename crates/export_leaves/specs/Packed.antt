-- Records as the numbers that the C interface takes and gives. Definitions only.
use Rattle.std.specs.Prelude.{List, [], ◌∷◌, Bool, cond, Float, Option, Some, None}
use Rattle.common.specs.Lists.{at}
use Rattle.geom.specs.Quats as Quats
use Rattle.geom.specs.declared.Quat.{Quat}
use Rattle.profile.specs.declared.Profile.{Profile}

-- the attitude of four numbers
abbrev pub quat : List Float → Quat
quat v = Quats.quat (at v 0) (at v 1) (at v 2) (at v 3)

-- the four numbers of an attitude
abbrev pub four : Quat → List Float
four q = q.w ∷ (q.x ∷ (q.y ∷ (q.z ∷ [])))

-- three numbers in their order
abbrev pub three : Float → Float → Float → List Float
three x y z = x ∷ (y ∷ (z ∷ []))

-- two numbers in their order
abbrev pub two : Float → Float → List Float
two a b = a ∷ (b ∷ [])

-- an optional limit
abbrev pub limit : Bool → Float → Option Float
limit with x = cond with (Some x) None

-- the profile of its numbers: theta, alpha, t_acc, t_coast, duration, omega_peak, the axis, the inertia by rows, q0
abbrev pub profile : List Float → Profile
profile v = record {
  theta = at v 0;
  alpha = at v 1;
  t_acc = at v 2;
  t_coast = at v 3;
  duration = at v 4;
  omega_peak = at v 5;
  axis = at v 6 ∷ (at v 7 ∷ (at v 8 ∷ []));
  inertia = at v 9 ∷ at v 10 ∷ at v 11 ∷ at v 12 ∷ at v 13 ∷ at v 14 ∷ at v 15 ∷ at v 16 ∷ at v 17 ∷ [];
  q0 = Quats.quat (at v 18) (at v 19) (at v 20) (at v 21);
}

-- the numbers of a profile
unfoldable pub numbers : Profile → List Float
numbers p =
    p.theta ∷ p.alpha ∷ p.t_acc ∷ p.t_coast ∷ p.duration ∷ p.omega_peak
    ∷ at p.axis 0 ∷ at p.axis 1 ∷ at p.axis 2
    ∷ at p.inertia 0 ∷ at p.inertia 1 ∷ at p.inertia 2 ∷ at p.inertia 3 ∷ at p.inertia 4
    ∷ at p.inertia 5 ∷ at p.inertia 6 ∷ at p.inertia 7 ∷ at p.inertia 8
    ∷ p.q0.w ∷ p.q0.x ∷ p.q0.y ∷ p.q0.z ∷ []
