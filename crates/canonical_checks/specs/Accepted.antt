-- A text is accepted exactly where the reader does not refuse it with 21, nor the checks with 1. Assumes nothing.
use Rattle.std.proofs.Common.{ap}
use Rattle.std.specs.Prelude.{ℕ, zero, suc, ◌+◌, ◌≤◌, ◌≡◌, refl, ◌↔◌, Bool, cond, ◌&&◌, List, ltb, Float, Option, Some, None, Result, Ok, Err}
use Rattle.std.proofs.Common.{arith, ltb-false, le-ltb}
use Rattle.std.proofs.Math.Bool.{true, false}
use Rattle.std.proofs.Math.Dec.{eqb}
use Rattle.common.specs.Iter.{iter}
use Rattle.geom.specs.declared.Quat.{Quat}
use Rattle.geom.specs.Vec.{tensor}
use Rattle.geom.specs.Quats.{normalized, unit3}
use Rattle.geom.specs.Tensors.{invert_spd}
use Rattle.actuators.specs.declared.Wheel.{Wheel}
use Rattle.actuators.specs.declared.Thruster.{Thruster}
use Rattle.actuators.specs.declared.Actuators.{Actuators}
use Rattle.actuators.specs.declared.ActuatorMap.{ActuatorMap}
use Rattle.actuators.specs.Prepare.{Prepared}
use Rattle.actuators.specs.Maps.{wheel_at, thruster_at, unfilled}
use Rattle.actuators.specs.Prepare as Prepare
use Rattle.problem.specs.declared.Problem.{Problem}
use Rattle.problem.specs.Starts.{leading_starts, check_starts}
use Rattle.problem.specs.Problems as Problems
use Rattle.canonical_laws.specs.Texts.{Few}
use Rattle.actuators.specs.declared.CmgPyramid.{CmgPyramid}
use Rattle.common.specs.Refusals.{Fate, refusal, going, fate_of}
use Rattle.common.specs.declared.Refusal.{Refusal}

-- not refused with 1
abbrev pub Other : Fate → Type 0
Other f = (place : ℕ) → f ≡ Err (refusal 1 place) → ⊥

goes : Other going
goes place e = let z : ◌≡◌ {A = ℕ} 0 1 = cc in omega arith

another : (n place : ℕ) → (n ≡ 1 → ⊥) → Other (Err (refusal n place))
another n place h k e = let same : refusal n place ≡ refusal 1 k = cc in h (ap (λ (r : Refusal). r.number) same)

-- ---- the checks of few actuators refuse with another number

placed : (place : ℕ) (u : Option (Float × Float × Float)) (f : Float → Float → Float → ActuatorMap) → Other (fate_of (Prepare.placed place u f))
placed place None f = another 3 place (λ e. omega (arith, e))
placed place (Some (x, y, z)) f = goes

checked : (out : Bool) (place : ℕ) (u : Option (Float × Float × Float)) (f : Float → Float → Float → ActuatorMap) → Other (fate_of (Prepare.checked out place u f))
checked true place u f = another 2 place (λ e. omega (arith, e))
checked false place u f = placed place u f

onward : (p : Prepared) (next : ActuatorMap → Prepared) → Other (fate_of p) → ((m : ActuatorMap) → Other (fate_of (next m))) → Other (fate_of (Prepare.onward p next))
onward (Ok m) next h k = k m
onward (Err why) next h k = h

wheels : (ws : List Wheel) (p : Prepared) (n : ℕ) → Other (fate_of p) → Other (fate_of (iter (Prepare.wheel_turn ws) p n))
unfolding iter Prepare.wheel_next Prepare.wheel_checked
wheels ws p zero h = h
wheels ws p (suc n) h = onward (iter (Prepare.wheel_turn ws) p n) (λ m. Prepare.wheel_checked m n (wheel_at ws n)) (wheels ws p n h) (λ m. checked (Prepare.wheel_outside (wheel_at ws n)) n (unit3 (wheel_at ws n).axis) (Prepare.with_wheel m n (wheel_at ws n)))

thrusters : (ts : List Thruster) (p : Prepared) (n : ℕ) → Other (fate_of p) → Other (fate_of (iter (Prepare.thruster_turn ts) p n))
unfolding iter Prepare.thruster_next Prepare.thruster_checked
thrusters ts p zero h = h
thrusters ts p (suc n) h = onward (iter (Prepare.thruster_turn ts) p n) (λ m. Prepare.thruster_checked m n (thruster_at ts n)) (thrusters ts p n h) (λ m. checked (Prepare.outside (thruster_at ts n).max_torque_nm) (8 + n) (unit3 (thruster_at ts n).torque_axis) (Prepare.with_thruster m n (thruster_at ts n)))

gyros_by : (b : Bool) (m : ActuatorMap) → Other (fate_of (Prepare.under_cmgs (cond b (Err (refusal 2 20)) going) m))
gyros_by true m = another 2 20 (λ e. omega (arith, e))
gyros_by false m = goes

gyros : (c : Option CmgPyramid) (m : ActuatorMap) → Other (fate_of (Prepare.cmgs_checked c m))
gyros None m = goes
gyros (Some p) m = gyros_by (Prepare.pyramid_outside p) m

filled : (a : Actuators) → Other (fate_of (Prepare.filled a))
unfolding Prepare.filled Prepare.cmgs_next Prepare.wheels_checked Prepare.thrusters_checked
filled a =
    let w = iter (Prepare.wheel_turn a.wheels) (Prepare.so_far (unfilled a.wheel_count a.thruster_count a.cmgs)) a.wheel_count in
    let t = iter (Prepare.thruster_turn a.thrusters) w a.thruster_count in
    onward t (Prepare.cmgs_checked a.cmgs) (thrusters a.thrusters w a.thruster_count (wheels a.wheels _ a.wheel_count goes)) (gyros a.cmgs)

module _ (p : Problem) (map : ActuatorMap) where
  inverted : (i : Result (List Float) Refusal) (q0 qf : Quat) → Other (Problems.inverted_by i p map q0 qf).fate
  inverted (Err why) q0 qf = another 6 0 (λ e. omega (arith, e))
  inverted (Ok m) q0 qf = goes

  final : (n : Option Quat) (q0 : Quat) → Other (Problems.final_by n p map q0).fate
  unfolding Problems.with_attitudes
  final None q0 = another 5 1 (λ e. omega (arith, e))
  final (Some qf) q0 = inverted (invert_spd (tensor p.inertia)) q0 qf

  begun : (n : Option Quat) → Other (Problems.start_by n p map).fate
  begun None = another 5 0 (λ e. omega (arith, e))
  begun (Some q0) = final (normalized p.norm_tolerance p.qf) q0

  started : (f : Fate) → Other f → Other (Problems.momenta_by f p map).fate
  unfolding Problems.with_starts
  started (Err why) h = h
  started (Ok _) h = begun (normalized p.norm_tolerance p.q0)

  numbers : (b : Bool) (f : Fate) → Other f → Other (cond b (Problems.momenta_by f p map) (Problems.refused 4 0)).fate
  numbers true f h = started f h
  numbers false f h = another 4 0 (λ e. omega (arith, e))

  starts : (n : ℕ) (limits : List Float) → Other (check_starts n limits p.momenta)
  unfolding check_starts
  starts n limits = go (leading_starts n limits p.momenta) (eqb (leading_starts n limits p.momenta) n && eqb (leading_starts n limits p.momenta) p.momenta.count)
    where
      go : (k : ℕ) (b : Bool) → Other (cond b going (Err (refusal 22 k)))
      go k true = goes
      go k false = another 22 k (λ e. omega (arith, e))

  mapped : Other (Problems.with_map p map).fate
  unfolding Problems.with_map
  mapped = numbers (Problems.numbers_fit p) _ (starts map.wheel_count map.wheel_momenta)

prepared : (p : Problem) (f : Prepared) → Other (fate_of f) → Other (Problems.prepared_by f p).fate
prepared p (Err why) h = h
prepared p (Ok m) h = mapped p m

few_prepared : (a : Actuators) → a.wheel_count ≤ 8 → a.thruster_count ≤ 12 → Prepare.prepare a ≡ Prepare.filled a
unfolding Prepare.prepare
few_prepared a h k = rw (le-ltb _ _ h, le-ltb _ _ k)

few_by : (p : Problem) → Other (Problems.check p).fate → Few p
unfolding Problems.check Prepare.prepare
few_by p h = go (ltb 8 p.actuators.wheel_count) (ltb 12 p.actuators.thruster_count) refl refl
  where
    go : (a b : Bool) → ltb 8 p.actuators.wheel_count ≡ a → ltb 12 p.actuators.thruster_count ≡ b → Few p
    go true b e k = absurd (h 0 (rw e))
    go false true e k = absurd (h 1 (rw (e, k)))
    go false false e k = (ltb-false _ _ e, ltb-false _ _ k)

-- the checks do not refuse with 1 exactly where the actuators are few
pub few_is : (p : Problem) → Few p ↔ Other (Problems.check p).fate
unfolding Problems.check
few_is p = ((λ n. prepared p (Prepare.prepare p.actuators) (rw (few_prepared p.actuators n.0 n.1) (filled p.actuators))), λ h. few_by p h)
