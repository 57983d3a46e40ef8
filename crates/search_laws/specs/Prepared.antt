-- A prepared map has the numbers that the user declared: its counts, its torques and momenta, the pyramid, and the unit vectors along its wheels' axes; and f64 holds them where it holds the
-- user's. Assumes nothing.
use Rattle.std.specs.Prelude.{◌≡◌, Bool, cond, List, T, set, length, Float, Option, Some, None, Ok, Err}
use Rattle.std.proofs.Math.Path.{refl}
use Rattle.std.proofs.Common.{sym, ◌∙◌, subst, arith, ltb-false, length-set, get_or-set_same, get_or-set_other}
use Rattle.std.proofs.Math.Bool.{true, false}
use Prim.Native.Nat.{ℕ, zero, suc, ◌+◌, ◌*◌, ◌≤◌, ◌<◌}
use Rattle.std.proofs.Math.Dec.{ltb}
use Rattle.std.specs.Float.{nan, binary64}
use Rattle.std.specs.Float.Ieee.{fits}
use Rattle.common.specs.Iter.{iter}
use Rattle.common.specs.Lists.{at}
use Rattle.float_laws.specs.Below.{below_none, below_next}
use Rattle.geom.specs.Quats.{unit3}
use Rattle.actuators.specs.Maps as Maps
use Rattle.actuators.specs.Prepare as Prepare
use Rattle.actuators.specs.ReadyLaws.{Holds, Sound, of_map, prepared}
use Rattle.actuators.specs.declared.Actuators.{Actuators}
use Rattle.actuators.specs.declared.ActuatorMap.{ActuatorMap}
use Rattle.actuators.specs.Prepare.{Prepared}
use Rattle.forward.specs.StepLaws.{refused_going}
use Rattle.run_laws.specs.Prepared.{RateFits, FitsM}
use Rattle.search_laws.specs.Decisions.{set_all}
use Rattle.search_laws.specs.Seeds.{zeros_fit}
use Rattle.actuators.specs.declared.CmgPyramid.{CmgPyramid}
use Rattle.common.specs.Refusals.{refusal, going}

-- ---- one traversal of `prepare`, over any property of its answer with j wheels and l thrusters in the tables
record Kept (a : Actuators) (W : ℕ → ℕ → Prepared → Type 0) : Type 0 where
  -- a refusal, at every count
  no : (j l n place : ℕ) → W j l (Prepare.refused n place)
  start : W 0 0 (Prepare.so_far (Maps.unfilled a.wheel_count a.thruster_count a.cmgs))
  wheel : (k l : ℕ) (m : ActuatorMap) (x y z : Float) → k < 8 → unit3 (Maps.wheel_at a.wheels k).axis ≡ Some (x, y, z) → W k l (Prepare.so_far m) → W (suc k) l (Prepare.so_far (Prepare.with_wheel m k (Maps.wheel_at a.wheels k) x y z))
  thruster : (j k : ℕ) (m : ActuatorMap) (x y z : Float) → k < 12 → W j k (Prepare.so_far m) → W j (suc k) (Prepare.so_far (Prepare.with_thruster m k (Maps.thruster_at a.thrusters k) x y z))

module _ (a : Actuators) (W : ℕ → ℕ → Prepared → Type 0) (K : Kept a W) where
  placed_keeps : (j l place : ℕ) (u v : Option (Float × Float × Float)) (f : Float → Float → Float → ActuatorMap) → u ≡ v → ((x y z : Float) → u ≡ Some (x, y, z) → W j l (Prepare.so_far (f x y z))) → W j l (Prepare.placed place v f)
  placed_keeps j l place u None f e h = K.no j l 3 place
  placed_keeps j l place u (Some (x, y, z)) f e h = h x y z e

  checked_keeps : (j l : ℕ) (out : Bool) (place : ℕ) (u : Option (Float × Float × Float)) (f : Float → Float → Float → ActuatorMap) → ((x y z : Float) → u ≡ Some (x, y, z) → W j l (Prepare.so_far (f x y z))) → W j l (Prepare.checked out place u f)
  checked_keeps j l true place u f h = K.no j l 2 place
  checked_keeps j l false place u f h = placed_keeps j l place u u f refl h

  -- from p with j and l to the next answer with i and k
  onward_keeps : (j l i k : ℕ) (p : Prepared) (next : ActuatorMap → Prepared) → W j l p → ((m : ActuatorMap) → W j l (Prepare.so_far m) → W i k (next m)) → W i k (Prepare.onward p next)
  onward_keeps j l i k (Ok m) next w h = h m w
  onward_keeps j l i k (Err why) next w h = K.no i k why.number why.place

  wheels_keep : (n : ℕ) (p : Prepared) → n ≤ 8 → W 0 0 p → W n 0 (iter (Prepare.wheel_turn a.wheels) p n)
  unfolding iter Prepare.wheel_next Prepare.wheel_checked
  wheels_keep zero p h w = w
  wheels_keep (suc k) p h w =
      let r = Maps.wheel_at a.wheels k in
      onward_keeps k 0 (suc k) 0 (iter (Prepare.wheel_turn a.wheels) p k) (λ m. Prepare.wheel_checked m k r) (wheels_keep k p (omega arith) w)
      (λ m v. checked_keeps (suc k) 0 (Prepare.wheel_outside r) k (unit3 r.axis) (Prepare.with_wheel m k r) (λ x y z u. K.wheel k 0 m x y z (omega arith) u v))

  thrusters_keep : (j n : ℕ) (p : Prepared) → n ≤ 12 → W j 0 p → W j n (iter (Prepare.thruster_turn a.thrusters) p n)
  unfolding iter Prepare.thruster_next Prepare.thruster_checked
  thrusters_keep j zero p h w = w
  thrusters_keep j (suc k) p h w =
      let r = Maps.thruster_at a.thrusters k in
      onward_keeps j k j (suc k) (iter (Prepare.thruster_turn a.thrusters) p k) (λ m. Prepare.thruster_checked m k r) (thrusters_keep j k p (omega arith) w)
      (λ m v. checked_keeps j (suc k) (Prepare.outside r.max_torque_nm) (8 + k) (unit3 r.torque_axis) (Prepare.with_thruster m k r) (λ x y z u. K.thruster j k m x y z (omega arith) v))

  cmgs_keep : (j l : ℕ) (c : Option CmgPyramid) (m : ActuatorMap) → W j l (Prepare.so_far m) → W j l (Prepare.cmgs_checked c m)
  cmgs_keep j l None m w = w
  cmgs_keep j l (Some y) m w = go (Prepare.pyramid_outside y)
    where
      go : (b : Bool) → W j l (Prepare.under_cmgs (cond b (Err (refusal 2 20)) going) m)
      go true = K.no j l 2 20
      go false = w

  filled_keeps : a.wheel_count ≤ 8 → a.thruster_count ≤ 12 → W a.wheel_count a.thruster_count (Prepare.filled a)
  unfolding Prepare.filled Prepare.cmgs_next Prepare.wheels_checked Prepare.thrusters_checked
  filled_keeps h i =
      let p = iter (Prepare.wheel_turn a.wheels) (Prepare.so_far (Maps.unfilled a.wheel_count a.thruster_count a.cmgs)) a.wheel_count in
      let q = iter (Prepare.thruster_turn a.thrusters) p a.thruster_count in
      onward_keeps a.wheel_count a.thruster_count a.wheel_count a.thruster_count q (Prepare.cmgs_checked a.cmgs)
      (thrusters_keep a.wheel_count a.thruster_count p i (wheels_keep a.wheel_count (Prepare.so_far (Maps.unfilled a.wheel_count a.thruster_count a.cmgs)) h K.start))
      (cmgs_keep a.wheel_count a.thruster_count a.cmgs)

  prepare_keeps : W a.wheel_count a.thruster_count (Prepare.prepare a)
  unfolding Prepare.prepare
  prepare_keeps = by (ltb 8 a.wheel_count) (ltb 12 a.thruster_count) refl refl
    where
      by : (b c : Bool) → ltb 8 a.wheel_count ≡ b → ltb 12 a.thruster_count ≡ c → W a.wheel_count a.thruster_count (cond b (Prepare.refused 1 0) (cond c (Prepare.refused 1 1) (Prepare.filled a)))
      by true c d e = K.no _ _ 1 0
      by false true d e = K.no _ _ 1 1
      by false false d e = filled_keeps (ltb-false _ _ d) (ltb-false _ _ e)

-- ---- f64 holds what the user declares, so it holds what the map has
pub record FitsA (a : Actuators) : Type 0 where
  pub torque : (k : ℕ) → T (fits binary64 (Maps.wheel_at a.wheels k).max_torque_nm)
  pub momentum : (k : ℕ) → T (fits binary64 (Maps.wheel_at a.wheels k).max_momentum_nms)
  pub axis : (k i : ℕ) → T (fits binary64 (at (Maps.wheel_at a.wheels k).axis i))
  pub thrust : (k : ℕ) → T (fits binary64 (Maps.thruster_at a.thrusters k).max_torque_nm)
  pub rate : RateFits a.cmgs

unfilled_fits : (nw nt : ℕ) (c : Option CmgPyramid) → RateFits c → FitsM (Maps.unfilled nw nt c)
unfolding Maps.unfilled
unfilled_fits nw nt c r = record { torque = zeros_fit 8; momentum = zeros_fit 8; thrust = zeros_fit 12; rate = r }

abbrev IsFit : Float → Type 0
IsFit x = T (fits binary64 x)

fits_kept : (a : Actuators) → FitsA a → Kept a (λ j l p. FitsM (Prepare.map_or_blank p))
unfolding Prepare.with_wheel Prepare.with_thruster
fits_kept a F = record {
  no = λ j l n place. unfilled_fits 0 0 None tt;
  start = unfilled_fits _ _ a.cmgs F.rate;
  wheel = λ k l m x y z h u M. record { torque = set_all IsFit m.wheel_torques k _ (F.torque k) M.torque; momentum = set_all IsFit m.wheel_momenta k _ (F.momentum k) M.momentum; thrust = M.thrust; rate = M.rate };
  thruster = λ j k m x y z h M. record { torque = M.torque; momentum = M.momentum; thrust = set_all IsFit m.thruster_torques k _ (F.thrust k) M.thrust; rate = M.rate };
}

pub prepare_fits : (a : Actuators) → FitsA a → FitsM (Prepare.map_or_blank (Prepare.prepare a))
prepare_fits a F = prepare_keeps a (λ j l p. FitsM (Prepare.map_or_blank p)) (fits_kept a F)

-- ---- the map has the user's numbers
-- the first j numbers of a table of a size are those of v
pub record Column (size j : ℕ) (v : ℕ → Float) (t : List Float) : Type 0 where
  pub long : length t ≡ size
  pub is : (k : ℕ) → k < j → at t k ≡ v k

column_more : (size j : ℕ) (v : ℕ → Float) (t : List Float) → j < size → Column size j v t → Column size (suc j) v (set t j (v j))
column_more size j v t h C = record {
  long = length-set t j (v j) ∙ C.long;
  is = below_next (λ k. at (set t j (v j)) k ≡ v k) j (get_or-set_same t j (v j) nan (rw C.long h)) (λ k l. get_or-set_other t j k (v j) nan (λ (e : k ≡ j). omega arith) ∙ C.is k l);
}

module _ (a : Actuators) where
  abbrev wheel_torque : ℕ → Float
  wheel_torque k = (Maps.wheel_at a.wheels k).max_torque_nm

  abbrev wheel_momentum : ℕ → Float
  wheel_momentum k = (Maps.wheel_at a.wheels k).max_momentum_nms

  abbrev thrust : ℕ → Float
  thrust k = (Maps.thruster_at a.thrusters k).max_torque_nm

  -- the first j axes of a table of eight are the unit vectors along the wheels' axes
  pub record Axes (j : ℕ) (t : List Float) : Type 0 where
    pub long : length t ≡ 24
    pub is : (k : ℕ) → k < j → unit3 (Maps.wheel_at a.wheels k).axis ≡ Some (at t (3 * k), at t (3 * k + 1), at t (3 * k + 2))

  axes_more : (k : ℕ) (t : List Float) (x y z : Float) → k < 8 → unit3 (Maps.wheel_at a.wheels k).axis ≡ Some (x, y, z) → Axes k t → Axes (suc k) (Prepare.axis_set t k x y z)
  axes_more k t x y z h u A = record {
    long = long3 ∙ A.long;
    is = below_next (λ i. unit3 (Maps.wheel_at a.wheels i).axis ≡ Some (at t3 (3 * i), at t3 (3 * i + 1), at t3 (3 * i + 2))) k
        (rw (here0, here1, here2) u)
        (λ i l. rw (there (3 * i) (omega arith), there (3 * i + 1) (omega arith), there (3 * i + 2) (omega arith)) (A.is i l));
  }
    where
      t1 : List Float
      t1 = set t (3 * k) x

      t2 : List Float
      t2 = set t1 (3 * k + 1) y

      t3 : List Float
      t3 = set t2 (3 * k + 2) z

      long1 : length t1 ≡ length t
      long1 = length-set t (3 * k) x

      long2 : length t2 ≡ length t
      long2 = length-set t1 (3 * k + 1) y ∙ long1

      long3 : length t3 ≡ length t
      long3 = length-set t2 (3 * k + 2) z ∙ long2

      here0 : at t3 (3 * k) ≡ x
      here0 = get_or-set_other t2 (3 * k + 2) (3 * k) z nan (λ (e : 3 * k ≡ 3 * k + 2). omega arith) ∙ get_or-set_other t1 (3 * k + 1) (3 * k) y nan (λ (e : 3 * k ≡ 3 * k + 1). omega arith) ∙ get_or-set_same t (3 * k) x nan (omega (arith, A.long))

      here1 : at t3 (3 * k + 1) ≡ y
      here1 = get_or-set_other t2 (3 * k + 2) (3 * k + 1) z nan (λ (e : 3 * k + 1 ≡ 3 * k + 2). omega arith) ∙ get_or-set_same t1 (3 * k + 1) y nan (omega (arith, A.long, long1))

      here2 : at t3 (3 * k + 2) ≡ z
      here2 = get_or-set_same t2 (3 * k + 2) z nan (omega (arith, A.long, long2))

      there : (i : ℕ) → i < 3 * k → at t3 i ≡ at t i
      there i l = get_or-set_other t2 (3 * k + 2) i z nan (λ (e : i ≡ 3 * k + 2). omega arith) ∙ get_or-set_other t1 (3 * k + 1) i y nan (λ (e : i ≡ 3 * k + 1). omega arith) ∙ get_or-set_other t (3 * k) i x nan (λ (e : i ≡ 3 * k). omega arith)

  pub record Tables (j l : ℕ) (m : ActuatorMap) : Type 0 where
    pub torques : Column 8 j wheel_torque m.wheel_torques
    pub momenta : Column 8 j wheel_momentum m.wheel_momenta
    pub thrusts : Column 12 l thrust m.thruster_torques
    pub axes : Axes j m.wheel_axes

  tables_kept : Kept a (λ j l p. Holds (Tables j l) p)
  unfolding Prepare.with_wheel Prepare.with_thruster Maps.unfilled
  tables_kept = record {
    no = λ j l n place. tt;
    start = record { torques = record { long = refl; is = below_none _ }; momenta = record { long = refl; is = below_none _ }; thrusts = record { long = refl; is = below_none _ }; axes = record { long = refl; is = below_none _ } };
    wheel = λ k l m x y z h u M. record { torques = column_more 8 k wheel_torque m.wheel_torques h M.torques; momenta = column_more 8 k wheel_momentum m.wheel_momenta h M.momenta; thrusts = M.thrusts; axes = axes_more k m.wheel_axes x y z h u M.axes };
    thruster = λ j k m x y z h M. record { torques = M.torques; momenta = M.momenta; thrusts = column_more 12 k thrust m.thruster_torques h M.thrusts; axes = M.axes };
  }

  -- THE MAP of what the user declares
  pub record Declared (m : ActuatorMap) : Type 0 where
    pub wheels : m.wheel_count ≡ a.wheel_count
    pub thrusters : m.thruster_count ≡ a.thruster_count
    pub cmgs : m.cmgs ≡ a.cmgs
    pub tables : Tables a.wheel_count a.thruster_count m

  pub prepare_declared : {m : ActuatorMap} → Prepare.prepare a ≡ Ok m → Declared m
  prepare_declared e =
      let R = (of_map (Sound a) (prepared a) e).ready in
      record { wheels = R.wheels; thrusters = R.thrusters; cmgs = R.gyros; tables = of_map (Tables a.wheel_count a.thruster_count) (prepare_keeps a (λ j l p. Holds (Tables j l) p) tables_kept) e }
