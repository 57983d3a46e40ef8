-- Whether the actuators are served does not depend on the torque, and served actuators have at most 12 controls a row. Assumes nothing.
use Rattle.std.specs.Prelude.{ℕ, ◌+◌, ◌≤◌, ◌≡◌, Bool, true, false, cond, ◌&&◌, List, leb, Float, Option, Some, None, Result, Ok, Err}
use Rattle.std.proofs.Math.Path.{refl}
use Rattle.std.proofs.Common.{arith, eqb-true}
use Rattle.std.proofs.Math.Dec.{eqb}
use Rattle.geom.specs.Vec as Vec
use Rattle.geom.specs.Tensors.{invert3}
use Rattle.actuators.specs.Maps.{is_sized, is_empty, control_dim, gimbals}
use Rattle.actuators.specs.MapLaws.{sized_counts}
use Rattle.actuators.specs.Pyramid.{Jacobian, gram, rows, pyramid_a}
use Rattle.actuators.specs.Allocate as Allocate
use Rattle.actuators.specs.declared.CmgPyramid.{CmgPyramid}
use Rattle.actuators.specs.Allocate.{Allocated}
use Rattle.actuators.specs.declared.ActuatorMap.{ActuatorMap}
use Rattle.forward.specs.StepLaws.{refused_going}
use Rattle.seeds.specs.Seeds as Seeds
use Rattle.common.specs.Refusals.{going, fate_of}
use Rattle.common.specs.declared.Refusal.{Refusal}

-- ---- two torques, one fate
module _ (s t : List Float) where
  along_by_law : (i : Result (List Float) Refusal) (v w : List Float) → fate_of (Allocate.along_by i v) ≡ fate_of (Allocate.along_by i w)
  along_by_law (Ok m) v w = refl
  along_by_law (Err why) v w = refl

  along : (a : List (List Float)) (v w : List Float) → fate_of (Allocate.along_axes a v) ≡ fate_of (Allocate.along_axes a w)
  unfolding Allocate.along_axes
  along a v w = along_by_law (invert3 a) v w

  least_by : (i : Result (List Float) Refusal) (a : List (List Float)) (v w : List Float) → fate_of (Allocate.least_by_value i a v) ≡ fate_of (Allocate.least_by_value i a w)
  least_by (Ok m) a v w = refl
  least_by (Err why) a v w = refl

  least : (a : List (List Float)) (v w : List Float) → fate_of (Allocate.least_rates a v) ≡ fate_of (Allocate.least_rates a w)
  unfolding Allocate.least_rates
  least a v w = least_by (invert3 (gram a)) a v w

  pyramid_by_law : (j : Jacobian) (p : CmgPyramid) → fate_of (Allocate.pyramid_alone_by j p s) ≡ fate_of (Allocate.pyramid_alone_by j p t)
  pyramid_by_law (Ok a) p = least (rows a) _ _
  pyramid_by_law (Err why) p = refl

  pyramid : (p : CmgPyramid) → fate_of (Allocate.pyramid_alone p s) ≡ fate_of (Allocate.pyramid_alone p t)
  unfolding Allocate.pyramid_alone
  pyramid p = pyramid_by_law (pyramid_a p.skew_rad _) p

  either : (b : Bool) (x y u v : Allocated) → fate_of x ≡ fate_of y → fate_of u ≡ fate_of v → fate_of (cond b x u) ≡ fate_of (cond b y v)
  either true x y u v p q = p
  either false x y u v p q = q

  axes : (m : ActuatorMap) → fate_of (Allocate.axes_alone m s) ≡ fate_of (Allocate.axes_alone m t)
  unfolding Allocate.axes_alone
  axes m =
      let w = Allocate.columns m.wheel_axes in
      let h = Allocate.columns m.thruster_axes in
      let s2 = Vec.scale3 s Vec.minus_one in
      let t2 = Vec.scale3 t Vec.minus_one in
      let no = Allocate.unserved 8 0 in
      let nw = m.wheel_count in
      let nt = m.thruster_count in
      either (Allocate.alone nw nt) (Allocate.along_axes w s2) (Allocate.along_axes w t2) (cond (Allocate.alone nt nw) (Allocate.along_axes h s) no) (cond (Allocate.alone nt nw) (Allocate.along_axes h t) no) (along w s2 t2)
      (either (Allocate.alone nt nw) (Allocate.along_axes h s) (Allocate.along_axes h t) no no (along h s t) refl)

  served_by_law : (c : Option CmgPyramid) (m : ActuatorMap) → fate_of (Allocate.served_by c m s) ≡ fate_of (Allocate.served_by c m t)
  served_by_law None m = axes m
  served_by_law (Some p) m = either (eqb m.wheel_count 0 && eqb m.thruster_count 0) (Allocate.pyramid_alone p s) (Allocate.pyramid_alone p t) (Allocate.unserved 8 0) (Allocate.unserved 8 0) (pyramid p) refl

  pub allocate_fate : (m : ActuatorMap) → fate_of (Allocate.allocate m s) ≡ fate_of (Allocate.allocate m t)
  unfolding Allocate.allocate
  allocate_fate m = either (is_empty m) (Ok (Allocate.three s)) (Ok (Allocate.three t)) (Allocate.served_by m.cmgs m s) (Allocate.served_by m.cmgs m t) refl (served_by_law m.cmgs m)

-- so every torque is served where none is
pub served_all : (m : ActuatorMap) (tau : List Float) → Seeds.served m ≡ fate_of (Allocate.allocate m tau)
unfolding Seeds.served
served_all m tau = allocate_fate Vec.zero3 tau m

-- ---- at most 12 controls a row
module _ (m : ActuatorMap) (sized : is_sized m ≡ true) where
  abbrev nw : ℕ
  nw = m.wheel_count

  abbrev nt : ℕ
  nt = m.thruster_count

  none : (a b : Bool) → a && b ≡ true → b ≡ true
  none true b e = e
  none false b e = let z : true ≡ false = cc in cc

  thrusters_alone : (b : Bool) (x : Allocated) → Allocate.alone nt nw ≡ b → fate_of (cond b x (Allocate.unserved 8 0)) ≡ going → nw + nt + 0 ≤ 12
  thrusters_alone true x e g = let z : nw ≡ 0 = eqb-true nw 0 (none (leb 3 nt) (eqb nw 0) e) in omega (arith, sized_counts m sized)
  thrusters_alone false x e g = absurd (refused_going g)

  wheels_alone : (b : Bool) (x y : Allocated) → Allocate.alone nw nt ≡ b → fate_of (cond b x (cond (Allocate.alone nt nw) y (Allocate.unserved 8 0))) ≡ going → nw + nt + 0 ≤ 12
  wheels_alone true x y e g = let z : nt ≡ 0 = eqb-true nt 0 (none (leb 3 nw) (eqb nt 0) e) in omega (arith, sized_counts m sized)
  wheels_alone false x y e g = thrusters_alone (Allocate.alone nt nw) y refl g

  both : (a b : Bool) → a && b ≡ true → (a ≡ true) × (b ≡ true)
  both true b e = (refl, e)
  both false b e = let z : true ≡ false = cc in (cc, cc)

  pyramid_alone_law : (b : Bool) (x : Allocated) → eqb nw 0 && eqb nt 0 ≡ b → fate_of (cond b x (Allocate.unserved 8 0)) ≡ going → nw + nt + 4 ≤ 12
  pyramid_alone_law true x e g =
      let z = both (eqb nw 0) (eqb nt 0) e in
      let a : nw ≡ 0 = eqb-true nw 0 z.0 in
      let b : nt ≡ 0 = eqb-true nt 0 z.1 in
      omega arith
  pyramid_alone_law false x e g = absurd (refused_going g)

  by_cmgs : (c : Option CmgPyramid) → fate_of (Allocate.served_by c m Vec.zero3) ≡ going → nw + nt + gimbals c ≤ 12
  unfolding Allocate.axes_alone
  by_cmgs None g = wheels_alone (Allocate.alone nw nt) (Allocate.along_axes (Allocate.columns m.wheel_axes) (Vec.scale3 Vec.zero3 Vec.minus_one)) (Allocate.along_axes (Allocate.columns m.thruster_axes) Vec.zero3) refl g
  by_cmgs (Some p) g = pyramid_alone_law (eqb nw 0 && eqb nt 0) (Allocate.pyramid_alone p Vec.zero3) refl g

  by_kind : (b : Bool) → fate_of (cond b (Ok (Allocate.three Vec.zero3)) (Allocate.served_by m.cmgs m Vec.zero3)) ≡ going → cond b 3 (nw + nt + gimbals m.cmgs) ≤ 12
  by_kind true g = omega arith
  by_kind false g = by_cmgs m.cmgs g

  pub served_narrow : Seeds.served m ≡ going → control_dim m ≤ 12
  unfolding Seeds.served Allocate.allocate control_dim
  served_narrow g = rw sized (by_kind (is_empty m) g)
