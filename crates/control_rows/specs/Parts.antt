-- What a control row does to the body: the wheel part, then the thruster part, then the gimbal part. As in actuators.rs. Definitions only.
use Rattle.std.specs.Prelude.{ℕ, ◌+◌, ◌≤◌, Bool, cond, ◌&&◌, List, [], ◌∷◌, eqb, length, Float, Option, Some, None}
use Rattle.std.specs.Float.{binary64}
use Rattle.std.specs.Float.Ieee.{add, mul, neg}
use Rattle.common.specs.Iter.{iter}
use Rattle.common.specs.Lists.{at, slice}
use Rattle.geom.specs.Vec.{add3, scale3, cross, row, zero3, minus_one}
use Rattle.actuators.specs.Maps.{axis_at, no_cmgs}
use Rattle.actuators.specs.Pyramid.{rows, dot4}
use Rattle.control_rows.specs.Stored.{stored}
use Rattle.control_rows.specs.declared.Rig.{Rig}
use Rattle.control_rows.specs.declared.WheelLaw.{WheelLaw}
use Rattle.control_rows.specs.declared.WheelLaw.TheVariants.{Once, Published}
use Rattle.actuators.specs.declared.CmgPyramid.{CmgPyramid}

-- axis k of a flat table, scaled by number k of u, is added to e
abbrev pub axis_turn : List Float → List Float → ℕ → List Float → List Float
axis_turn t u k e = add3 e (scale3 (axis_at t k) (at u k))

-- the first n axes of a table, each scaled by its number of u, added to e from the left
abbrev pub axes : List Float → List Float → List Float → ℕ → List Float
axes t u e n = iter (axis_turn t u) e n

-- What a law makes of the torque e, from which the wheels' sum is taken. ω × h stands once, in Euler's equations (`euler_lhs`); the published law, which
-- only the comparison with the unaltered Rust reads, takes it from the torque too, so that a step subtracts it twice.
abbrev pub wheel_by : WheelLaw → List Float → List Float → List Float → List Float
wheel_by Once e w h = e
wheel_by Published e w h = add3 e (scale3 (cross w h) minus_one)

-- the wheel part u: tau less the sum of the axes, by the law; no wheels leave tau as it is
unfoldable pub wheel_part : WheelLaw → List Float → ℕ → List Float → List Float → List Float → List Float → List Float
wheel_part law t n u w h tau = cond (eqb n 0) tau (wheel_by law (add3 tau (scale3 (axes t u zero3 n) minus_one)) w h)

-- the gimbal rates u: tau less the momentum of a pyramid's wheels times its matrix a (by rows of four) times the rates
abbrev pub pyramid_part : Float → List Float → List Float → List Float → List Float
pyramid_part momentum a u tau =
    add3 tau (scale3 (dot4 (row (rows a) 0) u ∷ dot4 (row (rows a) 1) u ∷ dot4 (row (rows a) 2) u ∷ []) (neg momentum))

-- the gimbal part u; no pyramid leaves tau as it is
abbrev pub gimbal_part : Option CmgPyramid → List Float → List Float → List Float → List Float
gimbal_part None a u tau = tau
gimbal_part (Some p) a u tau = pyramid_part p.wheel_momentum_nms a u tau

-- there are no actuators: a row is three body torques
abbrev pub bare : Rig → Bool
bare r = eqb r.wheel_count 0 && eqb r.thruster_count 0 && no_cmgs r.cmgs

-- the controls of a row that has g gimbal rates
unfoldable pub width : Rig → ℕ → ℕ
width r g = cond (bare r) 3 (r.wheel_count + r.thruster_count + g)

-- the counts are within the tables, and a row of n numbers is as wide as one with g gimbal rates
pub record Sized (r : Rig) (g n : ℕ) : Type 0 where
  pub wheels : r.wheel_count ≤ 8
  pub thrusters : r.thruster_count ≤ 12
  pub row : width r g ≤ n

-- the same of a row that is read as parts
pub record Room (r : Rig) (g n : ℕ) : Type 0 where
  pub wheels : r.wheel_count ≤ 8
  pub thrusters : r.thruster_count ≤ 12
  pub row : r.wheel_count + r.thruster_count + g ≤ n

-- the torque of the parts of the row u at rate w, stored momentum h and pyramid matrix a, with the axes of wheels and thrusters in tables
unfoldable pub parts_torque : Rig → List Float → List Float → List Float → List Float → List Float → List Float → List Float
parts_torque r wheels thrusters u w h a =
    gimbal_part r.cmgs a (slice (r.wheel_count + r.thruster_count) (length u) u)
    (axes thrusters (slice r.wheel_count (r.wheel_count + r.thruster_count) u)
    (wheel_part r.law wheels r.wheel_count (slice 0 r.wheel_count u) w h zero3)
    r.thruster_count)

-- the torque of the row u; with no actuators it is the first three numbers
unfoldable pub row_torque : Rig → List Float → List Float → List Float → List Float → List Float → List Float → List Float
row_torque r wheels thrusters u w h a =
    cond (bare r) (at u 0 ∷ at u 1 ∷ at u 2 ∷ []) (parts_torque r wheels thrusters u w h a)

-- the momentum stored in n wheels with the momenta hw, in the body's axes
unfoldable pub body_momentum : List Float → ℕ → List Float → List Float
body_momentum t n hw = axes t hw zero3 n

-- wheel k's momentum x after a time dt under its control
abbrev pub charged : List Float → Float → ℕ → Float → Float
charged u dt k x = add binary64 x (mul binary64 (at u k) dt)

-- the momenta of n wheels after a time dt under the controls u
unfoldable pub momenta_next : ℕ → List Float → List Float → Float → List Float
momenta_next n hw u dt = stored (charged u dt) hw n
