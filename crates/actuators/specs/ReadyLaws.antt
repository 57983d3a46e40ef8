-- What holds of a prepared map: its counts and gyros are the declared ones and within the tables, and its limits are finite and above 0. Assumes nothing.
use Prim.Native.Nat.{ℕ, zero, suc, ◌+◌, ◌≤◌, ◌<◌}
use Rattle.std.specs.Prelude.{◌≡◌, Bool, true, false, cond, ◌||◌, List, ltb, Float, length, set, Option, Some, None, Ok, Err}
use Rattle.std.proofs.Math.Path.{refl}
use Rattle.std.proofs.Common.{add-one, arith, below_more, ltb-false, le-leb, get_or-set_same, get_or-set_other}
use Rattle.std.specs.Float.{nan}
use Rattle.std.proofs.Math.ListN.{length-set}
use Rattle.common.specs.Iter.{iter}
use Rattle.common.specs.Lists.{at}
use Rattle.geom.specs.Quats.{unit3}
use Rattle.actuators.specs.declared.Wheel.{Wheel}
use Rattle.actuators.specs.declared.Thruster.{Thruster}
use Rattle.actuators.specs.declared.CmgPyramid.{CmgPyramid}
use Rattle.actuators.specs.declared.Actuators.{Actuators}
use Rattle.actuators.specs.declared.ActuatorMap.{ActuatorMap}
use Rattle.actuators.specs.Prepare.{Prepared}
use Rattle.actuators.specs.Maps as Maps
use Rattle.actuators.specs.Prepare as Prepare
use Rattle.common.specs.Refusals.{refusal, going}

-- ---- past a refusal

-- a property of the map, where there is one
abbrev pub Holds : (ActuatorMap → Type 0) → Prepared → Type 0
Holds P (Ok m) = P m
Holds P (Err why) = Unit {0}

-- so it is a property of the map that an answer is
pub of_map : (P : ActuatorMap → Type 0) {p : Prepared} {m : ActuatorMap} → Holds P p → p ≡ Ok m → P m
of_map P h e = rw e at h

module _ (Q : ActuatorMap → Type 0) where
  past_axis : (place : ℕ) (u : Option (Float × Float × Float)) (f : Float → Float → Float → ActuatorMap) → ((x y z : Float) → Q (f x y z)) → Holds Q (Prepare.placed place u f)
  past_axis place None f h = tt
  past_axis place (Some (x, y, z)) f h = h x y z

  past_check : (out : Bool) (place : ℕ) (u : Option (Float × Float × Float)) (f : Float → Float → Float → ActuatorMap) → (out ≡ false → (x y z : Float) → Q (f x y z)) → Holds Q (Prepare.checked out place u f)
  past_check true place u f h = tt
  past_check false place u f h = past_axis place u f (h refl)

  past_turn : (P : ActuatorMap → Type 0) (p : Prepared) (next : ActuatorMap → Prepared) → Holds P p → ((m : ActuatorMap) → P m → Holds Q (next m)) → Holds Q (Prepare.onward p next)
  past_turn P (Ok m) next w h = h m w
  past_turn P (Err why) next w h = tt

-- ---- a table's numbers

-- the first n numbers of a table are finite and above 0
abbrev pub InRange : List Float → ℕ → Type 0
InRange t n = (k : ℕ) → k < n → Prepare.outside (at t k) ≡ false

range_more : (t : List Float) (i : ℕ) (v : Float) → i < length t → InRange t i → Prepare.outside v ≡ false → InRange (set t i v) (i + 1)
range_more t i v h all here =
    below_more (λ (k : ℕ). Prepare.outside (at (set t i v) k) ≡ false) i (λ k l. rw (get_or-set_other t i k v nan (λ e. omega arith)) (all k l)) (rw (get_or-set_same t i v nan h) here)

-- ---- the map as it fills

-- what is known of the map of `a` with j wheels and l thrusters in its tables
pub record Ready (a : Actuators) (j l : ℕ) (m : ActuatorMap) : Type 0 where
  pub wheels : m.wheel_count ≡ a.wheel_count
  pub thrusters : m.thruster_count ≡ a.thruster_count
  pub gyros : m.cmgs ≡ a.cmgs
  pub torques_held : length m.wheel_torques ≡ 8
  pub momenta_held : length m.wheel_momenta ≡ 8
  pub thrusts_held : length m.thruster_torques ≡ 12
  pub torques : InRange m.wheel_torques j
  pub momenta : InRange m.wheel_momenta j
  pub thrusts : InRange m.thruster_torques l

or_false : (a b : Bool) → a || b ≡ false → (a ≡ false) × (b ≡ false)
or_false true b e = (e, cc)
or_false false b e = (refl, e)

module _ (a : Actuators) where
  ready_start : Ready a 0 0 (Maps.unfilled a.wheel_count a.thruster_count a.cmgs)
  unfolding Maps.unfilled
  ready_start =
      record {
        wheels = refl;
        thrusters = refl;
        gyros = refl;
        torques_held = refl;
        momenta_held = refl;
        thrusts_held = refl;
        torques = λ k l. absurd (omega arith);
        momenta = λ k l. absurd (omega arith);
        thrusts = λ k l. absurd (omega arith);
      }

  ready_wheel : (k l : ℕ) (w : Wheel) (m : ActuatorMap) (x y z : Float) → k < 8 → Ready a k l m → Prepare.wheel_outside w ≡ false → Ready a (k + 1) l (Prepare.with_wheel m k w x y z)
  unfolding Prepare.with_wheel Prepare.wheel_outside
  ready_wheel k l w m x y z h r o =
      let both = or_false _ _ o in
      let own = or_false _ _ both.0 in
      record {
        wheels = r.wheels;
        thrusters = r.thrusters;
        gyros = r.gyros;
        torques_held = rw length-set r.torques_held;
        momenta_held = rw length-set r.momenta_held;
        thrusts_held = r.thrusts_held;
        torques = range_more m.wheel_torques k w.max_torque_nm (omega (arith, r.torques_held)) r.torques own.0;
        momenta = range_more m.wheel_momenta k w.max_momentum_nms (omega (arith, r.momenta_held)) r.momenta own.1;
        thrusts = r.thrusts;
      }

  ready_thruster : (j k : ℕ) (t : Thruster) (m : ActuatorMap) (x y z : Float) → k < 12 → Ready a j k m → Prepare.outside t.max_torque_nm ≡ false → Ready a j (k + 1) (Prepare.with_thruster m k t x y z)
  unfolding Prepare.with_thruster
  ready_thruster j k t m x y z h r o =
      record {
        wheels = r.wheels;
        thrusters = r.thrusters;
        gyros = r.gyros;
        torques_held = r.torques_held;
        momenta_held = r.momenta_held;
        thrusts_held = rw length-set r.thrusts_held;
        torques = r.torques;
        momenta = r.momenta;
        thrusts = range_more m.thruster_torques k t.max_torque_nm (omega (arith, r.thrusts_held)) r.thrusts o;
      }

  ready_wheels : (ws : List Wheel) (n : ℕ) (p : Prepared) → n ≤ 8 → Holds (Ready a 0 0) p → Holds (Ready a n 0) (iter (Prepare.wheel_turn ws) p n)
  unfolding iter Prepare.wheel_next Prepare.wheel_checked
  ready_wheels ws zero p h start = start
  ready_wheels ws (suc k) p h start =
      past_turn (Ready a (suc k) 0) (Ready a k 0) (iter (Prepare.wheel_turn ws) p k) (λ m. Prepare.wheel_checked m k (Maps.wheel_at ws k)) (ready_wheels ws k p (omega arith) start)
      (λ m r. past_check (Ready a (suc k) 0) (Prepare.wheel_outside (Maps.wheel_at ws k)) k (unit3 (Maps.wheel_at ws k).axis) (Prepare.with_wheel m k (Maps.wheel_at ws k))
      (λ o x y z. rw (add-one k) at (ready_wheel k 0 (Maps.wheel_at ws k) m x y z (omega arith) r o)))

  ready_thrusters : (j : ℕ) (ts : List Thruster) (n : ℕ) (p : Prepared) → n ≤ 12 → Holds (Ready a j 0) p → Holds (Ready a j n) (iter (Prepare.thruster_turn ts) p n)
  unfolding iter Prepare.thruster_next Prepare.thruster_checked
  ready_thrusters j ts zero p h start = start
  ready_thrusters j ts (suc k) p h start =
      past_turn (Ready a j (suc k)) (Ready a j k) (iter (Prepare.thruster_turn ts) p k) (λ m. Prepare.thruster_checked m k (Maps.thruster_at ts k)) (ready_thrusters j ts k p (omega arith) start)
      (λ m r. past_check (Ready a j (suc k)) (Prepare.outside (Maps.thruster_at ts k).max_torque_nm) (8 + k) (unit3 (Maps.thruster_at ts k).torque_axis) (Prepare.with_thruster m k (Maps.thruster_at ts k))
      (λ o x y z. rw (add-one k) at (ready_thruster j k (Maps.thruster_at ts k) m x y z (omega arith) r o)))

-- ---- the whole

-- A prepared map of `a`: the declared counts fit the tables, the map is ready at them, and a pyramid's numbers are within their ranges.
pub record Sound (a : Actuators) (m : ActuatorMap) : Type 0 where
  pub wheels_fit : a.wheel_count ≤ 8
  pub thrusters_fit : a.thruster_count ≤ 12
  pub ready : Ready a a.wheel_count a.thruster_count m
  pub pyramid : (p : CmgPyramid) → a.cmgs ≡ Some p → Prepare.pyramid_outside p ≡ false

module _ (a : Actuators) (h : a.wheel_count ≤ 8) (i : a.thruster_count ≤ 12) (m : ActuatorMap) (r : Ready a a.wheel_count a.thruster_count m) where
  sound_with : (out : Bool) (p : CmgPyramid) → a.cmgs ≡ Some p → Prepare.pyramid_outside p ≡ out → Holds (Sound a) (Prepare.under_cmgs (cond out (Err (refusal 2 20)) going) m)
  sound_with true p e o = tt
  sound_with false p e o = record { wheels_fit = h; thrusters_fit = i; ready = r; pyramid = λ q f. let same : p ≡ q = cc in rw (← same) o }

  sound_cmgs : (c : Option CmgPyramid) → a.cmgs ≡ c → Holds (Sound a) (Prepare.cmgs_checked c m)
  sound_cmgs None e = record { wheels_fit = h; thrusters_fit = i; ready = r; pyramid = λ q f. let z : ◌≡◌ {A = ℕ} 0 1 = cc in absurd (omega arith) }
  sound_cmgs (Some p) e = sound_with (Prepare.pyramid_outside p) p e refl

filled_sound : (a : Actuators) → a.wheel_count ≤ 8 → a.thruster_count ≤ 12 → Holds (Sound a) (Prepare.filled a)
unfolding Prepare.filled Prepare.cmgs_next Prepare.wheels_checked Prepare.thrusters_checked
filled_sound a h i =
    let start = Prepare.so_far (Maps.unfilled a.wheel_count a.thruster_count a.cmgs) in
    let wheeled = Prepare.wheels_checked a.wheels start a.wheel_count in
    let thrusting = Prepare.thrusters_checked a.thrusters wheeled a.thruster_count in
    past_turn (Sound a) (Ready a a.wheel_count a.thruster_count) thrusting (Prepare.cmgs_checked a.cmgs)
    (ready_thrusters a a.wheel_count a.thrusters a.thruster_count wheeled i (ready_wheels a a.wheels a.wheel_count start h (ready_start a)))
    (λ m r. sound_cmgs a h i m r a.cmgs refl)

-- where `prepare` gives a map, it is sound
pub prepared : (a : Actuators) → Holds (Sound a) (Prepare.prepare a)
unfolding Prepare.prepare
prepared a = by (ltb 8 a.wheel_count) (ltb 12 a.thruster_count) refl refl
  where
    by : (b c : Bool) → ltb 8 a.wheel_count ≡ b → ltb 12 a.thruster_count ≡ c → Holds (Sound a) (cond b (Prepare.refused 1 0) (cond c (Prepare.refused 1 1) (Prepare.filled a)))
    by true c eb ec = tt
    by false true eb ec = tt
    by false false eb ec = filled_sound a (ltb-false _ _ eb) (ltb-false _ _ ec)

-- where `prepare` gives a map, it is sized
pub prepared_sized : (a : Actuators) → Holds (λ (m : ActuatorMap). Maps.is_sized m ≡ true) (Prepare.prepare a)
unfolding Maps.is_sized
prepared_sized a = by (Prepare.prepare a) (prepared a)
  where
    by : (p : Prepared) → Holds (Sound a) p → Holds (λ (m : ActuatorMap). Maps.is_sized m ≡ true) p
    by (Ok m) s = rw (s.ready.wheels, s.ready.thrusters, le-leb _ _ s.wheels_fit, le-leb _ _ s.thrusters_fit)
    by (Err why) s = tt
