-- What the tests against limits say: torques and momenta that pass with the tolerance of 1e-9 are within their limits as exact numbers, and a projected
-- control that is no NaN is at most its limit in size. Assumes nothing.
use Rattle.std.specs.Prelude.{◌≡◌, Bool, not, List, ℕ, ◌+◌, ◌-◌, ◌<◌, ◌≤◌, T, ltb, length, Float, Option, Some, None}
use Rattle.std.proofs.Math.Bool.{true, false, cond}
use Rattle.std.proofs.Common.{arith, ltb→lt, nltb→le}
use Rattle.std.specs.Float.{binary64}
use Rattle.std.specs.Float.Ieee.{neg, lt, le, fits}
use Rattle.common.specs.Iter.{iter}
use Rattle.common.specs.Lists.{at}
use Rattle.float.specs.Ops.{number, abs, clamp}
use Rattle.float_laws.specs.Below.{below_three}
use Rattle.float_laws.specs.Finite.{finite_number}
use Rattle.float_laws.specs.Limits.{Limit, tol, Under, control_within}
use Rattle.float_laws.proofs.Limits.{excess_under}
use Rattle.float_laws.specs.Numbers.{clamp_n}
use Rattle.float_laws.specs.Order.{Held, held}
use Rattle.geom.specs.Vec.{torque_excess}
use Rattle.actuators.specs.Maps.{gimbals}
use Rattle.actuators.specs.declared.ActuatorMap.{ActuatorMap}
use Rattle.control_rows.specs.Parts.{bare, width}
use Rattle.control_limits.specs.Limits.{hold, gimbal_rate, part_limit_value, limit_of, fewer, projected, momentum_excess}
use Rattle.control_limits.specs.Limits as Controls
use Rattle.control_rows.specs.StoredLaws.{stored_length}
use Rattle.control_rows.specs.declared.Rig.{Rig}
use Rattle.controls.specs.Controls.{rig_of}
use Rattle.run_laws.specs.Values.{Fine3, Fit3, HeldN}
use Rattle.run_laws.specs.Torques.{stored_at}
use Rattle.run_laws.specs.Prepared.{MapOk, RateOk}
use Rattle.actuators.specs.declared.CmgPyramid.{CmgPyramid}

-- TORQUES: where the excess over the limits is not above 1e-9, each of three finite torques is below its limit and the next f64 above 1e-9
pub torque_under : (t l : List Float) → Fine3 t → Fit3 t → ((i : ℕ) → i < 3 → Limit (at l i)) → T (not (lt tol (torque_excess t l))) → (i : ℕ) → i < 3 → Under (at t i) (at l i)
unfolding iter
torque_under t l p g L h = excess_under (at t) (at l) 3
    (below_three (λ i. Held binary64 (at t i)) (held g.0 (finite_number (at t 0) p.0)) (held g.1 (finite_number (at t 1) p.1)) (held g.2 (finite_number (at t 2) p.2))) L h

-- MOMENTA: the same of n wheels whose momenta are no NaN
pub momentum_under : (limits : List Float) (n : ℕ) (hw : List Float) → HeldN n hw → ((i : ℕ) → i < n → Limit (at limits i)) → T (not (lt tol (momentum_excess limits n hw))) → (i : ℕ) → i < n → Under (at hw i) (at limits i)
unfolding momentum_excess
momentum_under limits n hw H L h = excess_under (at hw) (at limits) n H L h

-- ---- the limits of a row's controls
module _ (m : ActuatorMap) (M : MapOk m) (box : List Float) (L : (i : ℕ) → i < 3 → Limit (at box i)) where
  rate_limit : (c : Option CmgPyramid) → RateOk c → (i : ℕ) → i < gimbals c → Limit (gimbal_rate c)
  rate_limit None R i h = absurd (no h)
    where
      no : i < 0 → ⊥
      no h = omega arith
  rate_limit (Some y) R i h = R

  part_limit : (i : ℕ) → i < m.wheel_count + m.thruster_count + gimbals m.cmgs → Limit (part_limit_value (rig_of m) m.wheel_torques m.thruster_torques i)
  part_limit i h = go (ltb i m.wheel_count) (ltb i (m.wheel_count + m.thruster_count)) (ltb→lt i m.wheel_count) (nltb→le i m.wheel_count) (ltb→lt i (m.wheel_count + m.thruster_count)) (nltb→le i (m.wheel_count + m.thruster_count))
    where
      go : (a b : Bool) → (T a → i < m.wheel_count) → (T (not a) → m.wheel_count ≤ i) → (T b → i < m.wheel_count + m.thruster_count) → (T (not b) → m.wheel_count + m.thruster_count ≤ i)
          → Limit (cond a (at m.wheel_torques i) (cond b (at m.thruster_torques (i - m.wheel_count)) (gimbal_rate m.cmgs)))
      go true b p q r s = M.torques i (p tt)
      go false true p q r s = let x : m.wheel_count ≤ i = q tt in let y : i < m.wheel_count + m.thruster_count = r tt in M.thrusts (i - m.wheel_count) (omega arith)
      go false false p q r s = let x : m.wheel_count + m.thruster_count ≤ i = s tt in rate_limit m.cmgs M.rate (i - (m.wheel_count + m.thruster_count)) (omega arith)

  -- each is finite and above 0
  pub row_limit_law : (i : ℕ) → i < width (rig_of m) (gimbals m.cmgs) → Limit (limit_of (rig_of m) m.wheel_torques m.thruster_torques box i)
  unfolding limit_of width
  row_limit_law i h = go (bare (rig_of m)) h
    where
      go : (b : Bool) → i < cond b 3 (m.wheel_count + m.thruster_count + gimbals m.cmgs) → Limit (cond b (at box) (part_limit_value (rig_of m) m.wheel_torques m.thruster_torques) i)
      go true h = L i h
      go false h = part_limit i h

-- ---- a projected row
module _ (r : Rig) (wheels thrusters box u : List Float) where
  abbrev count : ℕ
  count = fewer (width r (gimbals r.cmgs)) (length u)

  abbrev most : ℕ → Float
  most = limit_of r wheels thrusters box

  count_le : count ≤ length u
  count_le = go (ltb (width r (gimbals r.cmgs)) (length u)) (ltb→lt (width r (gimbals r.cmgs)) (length u))
    where
      go : (b : Bool) → (T b → width r (gimbals r.cmgs) < length u) → cond b (width r (gimbals r.cmgs)) (length u) ≤ length u
      go true h = let x = h tt in omega arith
      go false h = omega arith

  -- each control is clamped to its limit
  pub projected_at : (i : ℕ) → i < count → at (projected r wheels thrusters box u) i ≡ clamp (neg (most i)) (most i) (at u i)
  unfolding projected hold
  projected_at i h = stored_at (Controls.hold_at most) u count count_le i h

  pub projected_length : length (projected r wheels thrusters box u) ≡ length u
  unfolding projected
  projected_length = stored_length (Controls.hold_at most) u count

  -- CONTROLS: a projected control that is no NaN is at most its limit in size
  pub control_in : (i : ℕ) → i < count → Limit (most i) → T (fits binary64 (at u i)) → T (number (at (projected r wheels thrusters box u) i)) → T (le (abs (at (projected r wheels thrusters box u) i)) (most i))
  control_in i h L g t =
      let e = projected_at i h in
      rw e (control_within (most i) L (at u i) g (clamp_n (neg (most i)) (most i) (at u i) (rw e at t)))
