-- The eigenaxis seed: for each of the 16 steps the torque that takes the rate reached so far to the next rate of the shape. The motion is followed by the step law's
-- own operations (controls `Controls`, forward `Steps`), on the row that the planner runs: allocated and held to its limits. Definitions only.
use Rattle.std.specs.Prelude.{ℕ, ◌+◌, ◌*◌, Bool, true, false, cond, List, [], ◌∷◌, set, replicate, Float, Option, Some, None}
use Rattle.std.specs.Float.{binary64}
use Rattle.std.specs.Float.Ieee.{add, mul, div, neg, eq}
use Rattle.common.specs.Floats as Floats
use Rattle.common.specs.Iter.{iter}
use Rattle.common.specs.Lists.{at}
use Rattle.geom.specs.Vec as Vec
use Rattle.geom.specs.Vec.{row}
use Rattle.geom.specs.Quats.{norm3, rotation_between}
use Rattle.geom.specs.Tensors.{invert3, inverse_or_zeros}
use Rattle.actuators.specs.Allocate.{allocate, row_or_zeros}
use Rattle.actuators.specs.Pyramid as Pyramid
use Rattle.actuators.specs.declared.CmgPyramid.{CmgPyramid}
use Rattle.controls.specs.Controls as Controls
use Rattle.problem.specs.declared.CheckedProblem.{CheckedProblem}
use Rattle.forward.specs.Steps.{rate_dot, rate_next, gimbals_next}
use Rattle.eigenaxis_seed.specs.Shapes.{pace, rising, sixteen}
use Rattle.eigenaxis_seed.specs.declared.Shape.{Shape}
use Rattle.eigenaxis_seed.specs.declared.Motion.{Motion}
use Rattle.eigenaxis_seed.specs.declared.Seeding.{Seeding}

-- a rotation vector; zeros where there is none, which no two normalized attitudes have
abbrev pub vector_of : Option (Float × Float × Float) → List Float
vector_of None = Vec.zero3
vector_of (Some (x, y, z)) = x ∷ y ∷ z ∷ []

-- the turn from q0 to qf as a rotation vector, the shorter way round; a half turn has one too, and no turn has zeros
unfoldable pub turn_of : CheckedProblem → List Float
turn_of p = vector_of (rotation_between p.q0 p.qf)

-- the rate that node i is to have, phi being the rotation vector and k the rising steps
abbrev pub aim : Shape → ℕ → Float → List Float → ℕ → List Float
aim shape k duration phi i = Vec.scale3 phi (pace shape k duration i)

-- ---- the torque of a step

-- the body torque that takes the rate reached to the target in a step of dt: J (target - w) / dt + w × (J w + h)
unfoldable pub net_torque : CheckedProblem → Float → List Float → Motion → List Float
net_torque p dt target m =
    Vec.euler_lhs (Vec.tensor p.inertia) (Vec.scale3 (Vec.sub3 target m.w) (div binary64 Floats.one dt)) m.w m.h

-- a row of four times each row of a matrix
abbrev pub against : List Float → List (List Float) → List Float
against a b = Pyramid.dot4 a (row b 0) ∷ Pyramid.dot4 a (row b 1) ∷ Pyramid.dot4 a (row b 2) ∷ []

-- A Bᵀ
unfoldable pub mixed : List (List Float) → List (List Float) → List (List Float)
mixed a b = against (row a 0) b ∷ against (row a 1) b ∷ against (row a 2) b ∷ []

-- The allocation takes a torque to gimbal rates A(0)ᵀ y as if the gimbals stood at 0; at the angles d these give -h A(d) A(0)ᵀ y. That is solved for y, and
-- -h A(0) A(0)ᵀ y is what the allocation must be handed. Where there is no y, it is zeros.
unfoldable pub pyramid_share : Float → List (List Float) → List (List Float) → List Float → List Float
pyramid_share momentum a a0 net = Vec.apply_tensor (Vec.tensor (inverse_or_zeros (invert3 (mixed a a0)))) (Vec.scale3 net (div binary64 Vec.minus_one momentum))

unfoldable pub pyramid_by : Float → List (List Float) → List (List Float) → List Float → List Float
pyramid_by momentum a a0 net = Vec.scale3 (Vec.apply_tensor (Pyramid.gram a0) (pyramid_share momentum a a0 net)) (neg momentum)

abbrev pub pyramid_torque : CmgPyramid → List Float → List Float → List Float
pyramid_torque p d net =
    pyramid_by p.wheel_momentum_nms (Pyramid.rows (Pyramid.matrix_or_zeros (Pyramid.pyramid_a p.skew_rad d))) (Pyramid.rows (Pyramid.matrix_or_zeros (Pyramid.pyramid_a p.skew_rad (replicate 4 Floats.plus_zero)))) net

-- what the allocation must be handed so that the step has the torque net
abbrev pub handed : Option CmgPyramid → List Float → List Float → List Float
handed None d net = net
handed (Some p) d net = pyramid_torque p d net

-- the seed's torque
unfoldable pub seed_torque : CheckedProblem → Float → List Float → Motion → List Float
seed_torque p dt target m = handed p.map.cmgs m.delta (net_torque p dt target m)

-- ---- the row of a torque, and the motion that it makes

abbrev pub row_of : CheckedProblem → List Float → List Float
row_of p torque = row_or_zeros (allocate p.map torque)

abbrev pub held_row : CheckedProblem → List Float → List Float
held_row p u = Controls.project_controls p.map p.torque_limit u

-- the wheels' momenta after a step of dt at these rates, which are +0 past the wheels
abbrev pub charged : List Float → List Float → Float → List Float
charged hw rates dt =
    add binary64 (at hw 0) (mul binary64 (at rates 0) dt)
    ∷ add binary64 (at hw 1) (mul binary64 (at rates 1) dt)
    ∷ add binary64 (at hw 2) (mul binary64 (at rates 2) dt)
    ∷ add binary64 (at hw 3) (mul binary64 (at rates 3) dt)
    ∷ add binary64 (at hw 4) (mul binary64 (at rates 4) dt)
    ∷ add binary64 (at hw 5) (mul binary64 (at rates 5) dt)
    ∷ add binary64 (at hw 6) (mul binary64 (at rates 6) dt)
    ∷ add binary64 (at hw 7) (mul binary64 (at rates 7) dt)
    ∷ []

-- the rate at the end of a step with the row u
unfoldable pub rate_after : CheckedProblem → Float → List Float → Motion → List Float
rate_after p dt u m =
    rate_next m.w (rate_dot p.inertia p.inverse m.w m.h (Controls.torque_or_zeros (Controls.body_torque p.map u m.w m.h m.delta))) dt

-- the momenta at its end
unfoldable pub momenta_after : CheckedProblem → Float → List Float → Motion → List Float
momenta_after p dt u m = charged m.hw (Controls.wheel_momentum_rates p.map u) dt

-- the motion after a step with the row u; a pyramid is served alone, so its rates are the row's first four
abbrev pub follow : CheckedProblem → Float → List Float → Motion → Motion
follow p dt u m = record {
  w = rate_after p dt u m;
  h = Controls.body_momentum p.map (momenta_after p dt u m);
  hw = momenta_after p dt u m;
  delta = gimbals_next u m.delta dt;
}

-- ---- the seed

-- whether two rows of 20 are equal, number by number
abbrev pub also : Bool → Float → Float → Bool
also same x y = cond (eq x y) same false

abbrev pub alike_turn : List Float → List Float → ℕ → Bool → Bool
alike_turn a b i same = also same (at a i) (at b i)

unfoldable pub alike : List Float → List Float → Bool
alike a b = iter (alike_turn a b) true 20

abbrev pub both : Bool → Bool → Bool
both a b = cond a b false

-- the numbers v, three a node, with w as node i
abbrev pub placed : List Float → ℕ → List Float → List Float
placed v i w = set (set (set v (3 * i) (at w 0)) (3 * i + 1) (at w 1)) (3 * i + 2) (at w 2)

-- step i with the torque that is to end it with the target rate: the row that gives it, held to its limits, is followed
abbrev pub step_by_value : CheckedProblem → Float → ℕ → List Float → List Float → Seeding → Seeding
step_by_value p dt i target torque s = record {
  fits = both (alike (row_of p torque) (held_row p (row_of p torque))) s.fits;
  rates = placed s.rates (i + 1) target;
  torques = placed s.torques i torque;
  motion = follow p dt (held_row p (row_of p torque)) s.motion;
}

unfoldable pub step : CheckedProblem → Float → ℕ → List Float → Seeding → Seeding
step p dt i target s = step_by_value p dt i target (seed_torque p dt target s.motion) s

-- at rest, the wheels with the problem's momenta, the gimbals at +0
unfoldable pub start : CheckedProblem → Seeding
start p = record {
  fits = true;
  rates = replicate 51 Floats.plus_zero;
  torques = replicate 51 Floats.plus_zero;
  motion = record { w = Vec.zero3; h = Controls.body_momentum p.map p.momenta; hw = p.momenta; delta = replicate 4 Floats.plus_zero };
}

abbrev pub turn : CheckedProblem → Shape → ℕ → Float → List Float → ℕ → Seeding → Seeding
turn p shape k duration phi i s = step p (div binary64 duration sixteen) i (aim shape k duration phi (i + 1)) s

-- THE SEED of a duration, phi being the rotation vector of the turn: 17 rates and 17 torques, of which the planner does not read the last, and whether no control
-- of its 16 rows is held to its limit
unfoldable pub seed : CheckedProblem → Shape → List Float → Float → Seeding
seed p shape phi duration = iter (turn p shape (rising p.slew (norm3 phi) duration) duration phi) (start p) 16
