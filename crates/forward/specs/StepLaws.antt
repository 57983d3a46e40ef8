-- What a step needs of the pyramid's skew and matrix, and what it hands on. Assumes nothing.
use Rattle.std.specs.Prelude.{ℕ, zero, suc, ◌+◌, ◌≤◌, ◌≡◌, Bool, true, false, cond, ◌&&◌, eqb, List, Float, Option, Some, None, Result, Ok, Err}
use Rattle.std.proofs.Math.Path.{refl}
use Rattle.std.proofs.Math.Dec.{eqb-suc-zero}
use Rattle.std.proofs.Common.{sym, ◌∙◌, arith}
use Rattle.std.specs.Float.{binary64}
use Rattle.std.specs.Float.Ieee.{of_bits, lt}
use Rattle.float.specs.Sqrt.{sqrt}
use Rattle.angles.specs.Both.{both_of}
use Rattle.actuators.specs.Pyramid.{Jacobian, pyramid_a, pyramid_from, matrix_or_zeros, singularity_of}
use Rattle.actuators.specs.PyramidLaws.{pyramid_once}
use Rattle.actuators.specs.declared.CmgPyramid.{CmgPyramid}
use Rattle.actuators.specs.Maps.{gimbals, no_cmgs}
use Rattle.gimbal_angles.specs.Known.{KnownOf}
use Rattle.common.specs.Lists.{slice}
use Rattle.geom.specs.Vec as Vec
use Rattle.geom.specs.Quats.{exp_so3}
use Rattle.geom.specs.declared.Quat.{Quat}
use Rattle.control_limits.specs.Limits.{power_excess}
use Rattle.control_rows.specs.Parts as Parts
use Rattle.control_rows.specs.Parts.{Sized, width, row_torque, momenta_next}
use Rattle.control_rows.specs.declared.Rig.{Rig}
use Rattle.forward.specs.Steps.{matrix_at, step_gimbals, swing_by, gimbals_by, refuse_gimbals, gimbals_next, gimbal_row, stop, slack, attitude_step, powered, wheel_momenta_value, body_momentum, rate_dot, rate_next, defect_of, turn_of, turned_step, rated_step, torqued_step, step}
use Rattle.forward.specs.declared.Body.{Body}
use Rattle.forward.specs.declared.Skew.{Skew}
use Rattle.forward.specs.declared.GimbalStep.{GimbalStep}
use Rattle.forward.specs.declared.BodyState.{BodyState}
use Rattle.forward.specs.declared.Stepped.{Stepped}
use Rattle.common.specs.declared.Refusal.{Refusal}
use Rattle.common.specs.Refusals.{Fate, refusal, going, fate_of}

-- the sine and the cosine of the pyramid's skew
abbrev pub SkewOf : Option CmgPyramid → Skew → Type 0
SkewOf None k = Unit {0}
SkewOf (Some p) k = both_of p.skew_rad ≡ Some (k.sine, k.cosine)

-- what is known of a pyramid's angles: the skew's sine and cosine, and a table of gimbal angles with theirs
abbrev pub AnglesOf : Option CmgPyramid → Skew → List Float → Type 0
AnglesOf c k t = SkewOf c k × KnownOf c t

-- a pyramid's matrix that is there
abbrev pub Made : Option CmgPyramid → List Float → List Float → Type 0
Made c d a = matrix_at c d ≡ Ok a

-- a step whose defect is squared, with its root
abbrev pub rooted : Stepped → Stepped
rooted g = record { fate = g.fate; s = g.s; tau = g.tau; defect = sqrt binary64 g.defect }

pub rooted_stop : (n i : ℕ) (s : BodyState) → rooted (stop n i s) ≡ stop n i s
unfolding sqrt of_bits
rooted_stop n i s = refl

-- ---- a step of the gimbals hands on the matrix at its angles
pub refused_going : {n i : ℕ} → Err (refusal n i) ≡ going → ⊥
refused_going h = let z : ◌≡◌ {A = ℕ} 0 1 = cc in omega arith

pub made : (m : Jacobian) → fate_of m ≡ going → m ≡ Ok (matrix_or_zeros m)
made (Ok a) h = refl
made (Err why) h = absurd (refused_going h)

pub refused_ok : {A : Type 0} {why : Refusal} {x : A} → ◌≡◌ {A = Result A Refusal} (Err why) (Ok x) → ⊥
refused_ok h = let z : ◌≡◌ {A = ℕ} 0 1 = cc in omega arith

pub ok_same : {A : Type 0} {x y : A} → ◌≡◌ {A = Result A Refusal} (Ok x) (Ok y) → x ≡ y
ok_same h = cc

pyramid_matrix : (p : CmgPyramid) (d : List Float) (k : ℕ) (m : Jacobian) {x : GimbalStep} → pyramid_a p.skew_rad d ≡ m → gimbals_by m p d k ≡ Ok x → Made (Some p) x.delta x.a
pyramid_matrix p d k (Err why) f h = absurd (refused_ok h)
pyramid_matrix p d k (Ok a) {x} f h = go (lt (singularity_of a) p.singularity_eps) h
  where
    go : (b : Bool) → cond b (refuse_gimbals 12 k) (Ok (record { delta = d; a = a })) ≡ Ok x → Made (Some p) x.delta x.a
    go true h = absurd (refused_ok h)
    go false h = rw (← ok_same h) f

gimbals_matrix_by : (c : Option CmgPyramid) (u d : List Float) (dt : Float) (k : ℕ) {x : GimbalStep} → swing_by c u d dt k ≡ Ok x → Made c x.delta x.a
gimbals_matrix_by None u d dt k h = rw (← ok_same h) refl
gimbals_matrix_by (Some p) u d dt k h = pyramid_matrix p (gimbals_next u d dt) k _ refl h

pub gimbals_matrix : (c : Option CmgPyramid) (u d : List Float) (dt : Float) (k : ℕ) {x : GimbalStep} → step_gimbals c u d dt k ≡ Ok x → Made c x.delta x.a
unfolding step_gimbals
gimbals_matrix c u d dt k h = gimbals_matrix_by c u d dt k h

-- what the code works out is the gimbals' step: the angles e, and the matrix m there from the skew's sine and cosine
pub pyramid_steps : (p : CmgPyramid) (u d : List Float) (dt : Float) (k : ℕ) (skew : Skew) {e : List Float} {m : Jacobian}
    → SkewOf (Some p) skew → e ≡ gimbals_next u d dt → m ≡ pyramid_from skew.sine skew.cosine e → gimbals_by m p e k ≡ step_gimbals (Some p) u d dt k
unfolding step_gimbals
pyramid_steps p u d dt k skew h q r = rw (r, q, pyramid_once p.skew_rad skew.sine skew.cosine (gimbals_next u d dt) h) refl

-- ---- a row that has its three parts
room_by : (nw nt : ℕ) (c : Option CmgPyramid) (n : ℕ) → cond (eqb nw 0 && eqb nt 0 && no_cmgs c) 3 (nw + nt + gimbals c) ≤ n → nw + nt + gimbals c ≤ n
room_by zero zero None n h = omega arith
room_by zero zero (Some p) n h = h
room_by zero (suc t) c n h = rw (eqb-suc-zero t) at h
room_by (suc w) t c n h = rw (eqb-suc-zero w) at h

-- the wheel part, the thruster part and the gimbal part stand in the row
pub row_room : (r : Rig) (n : ℕ) → Sized r (gimbals r.cmgs) n → r.wheel_count + r.thruster_count + gimbals r.cmgs ≤ n
unfolding width
row_room r n s = room_by r.wheel_count r.thruster_count r.cmgs n s.row

-- ---- the end of a step, by the parts that the code works out

module _ (b : Body) (u : List Float) (k : ℕ) (s : BodyState) (tau : List Float) (defect : Float) (w2 : List Float) (q2 : Quat) {g : Result GimbalStep Refusal}
    (is : g ≡ step_gimbals b.rig.cmgs (gimbal_row b.rig u) s.delta b.frame.dt k) where
  pub ends_gimbals : {n i : ℕ} → g ≡ Err (refusal n i) → stop n i s ≡ attitude_step b u k s tau defect w2 q2
  unfolding attitude_step
  ends_gimbals t = rw (← is, t) refl

  pub ends_powered : {e : Float} {x : GimbalStep} → g ≡ Ok x → e ≡ power_excess b.wheels b.powers b.rig.wheel_count (slice 0 b.rig.wheel_count u) s.w → lt slack e ≡ true
      → stop 13 k s ≡ attitude_step b u k s tau defect w2 q2
  unfolding attitude_step powered
  ends_powered t p o = rw (← is, t, ← p, o) refl

  pub ends_finished : {e : Float} {hw h : List Float} {x : GimbalStep} → g ≡ Ok x → e ≡ power_excess b.wheels b.powers b.rig.wheel_count (slice 0 b.rig.wheel_count u) s.w → lt slack e ≡ false
      → hw ≡ momenta_next b.rig.wheel_count s.hw (slice 0 b.rig.wheel_count u) b.frame.dt → h ≡ Parts.body_momentum b.wheels b.rig.wheel_count hw
      → ◌≡◌ {A = Stepped} (record { fate = going; s = record { q = q2; w = w2; h = h; hw = hw; delta = x.delta }; tau = tau; defect = defect }) (attitude_step b u k s tau defect w2 q2)
  unfolding attitude_step powered wheel_momenta_value body_momentum
  ends_finished t p o m n = rw (← is, t, ← p, o, n, m) refl

-- the matrix at its end
pub hands_on : (c : Option CmgPyramid) (u d : List Float) (dt : Float) (k : ℕ) {g : Result GimbalStep Refusal} {x : GimbalStep} → g ≡ step_gimbals c u d dt k → g ≡ Ok x → Made c x.delta x.a
hands_on c u d dt k is t = gimbals_matrix c u d dt k (sym is ∙ t)

-- ---- the start of a step, by the parts that the code works out
module _ (b : Body) (u : List Float) (k : ℕ) (s : BodyState) {a tau wd w2 v : List Float} {defect : Float} (m : Made b.rig.cmgs s.delta a)
    (t : tau ≡ row_torque b.rig b.wheels b.thrusters u s.w s.h a) (d : wd ≡ rate_dot b.frame.j b.frame.jinv s.w s.h tau)
    (n : w2 ≡ rate_next s.w wd b.frame.dt) (f : defect ≡ defect_of b.frame.j s.w s.h tau wd) (g : v ≡ turn_of s.w w2 b.frame.dt) where
  pub turned_is : turned_step (exp_so3 v) b u k s tau defect w2 ≡ step b u k s
  unfolding step torqued_step rated_step
  turned_is = rw (m, g, f, n, d, t) refl
