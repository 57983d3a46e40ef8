-- The limits of a row's parts are those of the whole row, part by part, so that holding the parts one after the other holds the row. Assumes nothing.
use Prim.Native.Nat.{ℕ, ◌+◌, ◌-◌, ◌<◌, ◌≤◌}
use mathlib.Core.Path.{◌≡◌, refl}
use mathlib.Core.List.{List}
use native.Mathlib.Nat.{zero-add}
use native.Mathlib.Omega.{arith}
use borrow.Author.Tests.{lt-ltb, le-ltb}
use lib.ListN.{length, replicate, get_or-replicate}
use lib.Ieee.{Float, nan}
use Rattle.common.specs.IterLaws.{iter_none}
use Rattle.common.specs.Lists.{at, slice, pasted}
use Rattle.actuators.specs.Maps.{gimbals}
use Rattle.actuators.specs.MapLaws.{gimbals_most}
use Rattle.control_rows.specs.Stored.{put, stored}
use Rattle.control_rows.specs.StoredLaws.{stored_rest}
use Rattle.control_limits.specs.Limits.{hold_at, part_limit_value, gimbal_rate, fewer}
use Rattle.control_limits.specs.FewerLaws.{fewer_most, fewer_past}
use Rattle.control_rows.specs.declared.Rig.{Rig}

module _ (r : Rig) (wheels thrusters : List Float) where
  pub wheel_limit : (k : ℕ) → k < r.wheel_count → (x : Float) → hold_at (at wheels) k x ≡ hold_at (part_limit_value r wheels thrusters) (0 + k) x
  wheel_limit k h x = rw (zero-add k, lt-ltb k r.wheel_count h)

  pub thruster_limit : (k : ℕ) → k < r.thruster_count → (x : Float) → hold_at (at thrusters) k x ≡ hold_at (part_limit_value r wheels thrusters) (r.wheel_count + k) x
  thruster_limit k h x =
      let e : r.wheel_count + k - r.wheel_count ≡ k = omega arith in
      rw (le-ltb (r.wheel_count + k) r.wheel_count (omega arith), lt-ltb (r.wheel_count + k) (r.wheel_count + r.thruster_count) (omega arith), e)

  pub gimbal_limit : (k : ℕ) → k < 4 → (x : Float) → hold_at (at (replicate 4 (gimbal_rate r.cmgs))) k x ≡ hold_at (part_limit_value r wheels thrusters) (r.wheel_count + r.thruster_count + k) x
  gimbal_limit k h x =
      rw (le-ltb (r.wheel_count + r.thruster_count + k) r.wheel_count (omega arith), le-ltb (r.wheel_count + r.thruster_count + k) (r.wheel_count + r.thruster_count) (omega arith), get_or-replicate 4 k (gimbal_rate r.cmgs) nan h)

  -- the three parts held one after the other, each lent as the rest of the row from its offset on
  module _ (u : List Float) (room : r.wheel_count + r.thruster_count ≤ length u) where
    abbrev pub first : List Float
    first = pasted u 0 (length u) (stored (hold_at (at wheels)) (slice 0 (length u) u) r.wheel_count)

    abbrev pub second : List Float
    second = pasted first r.wheel_count (length u) (stored (hold_at (at thrusters)) (slice r.wheel_count (length u) first) r.thruster_count)

    abbrev pub third : ℕ → List Float
    third n =
        pasted second (r.wheel_count + r.thruster_count) (length u)
        (stored (hold_at (at (replicate 4 (gimbal_rate r.cmgs)))) (slice (r.wheel_count + r.thruster_count) (length u) second) n)

    pub parts_held : third (fewer (gimbals r.cmgs) (length u - (r.wheel_count + r.thruster_count)))
        ≡ stored (hold_at (part_limit_value r wheels thrusters)) u (fewer (r.wheel_count + r.thruster_count + gimbals r.cmgs) (length u))
    parts_held =
        let most = fewer_most (gimbals r.cmgs) (length u - (r.wheel_count + r.thruster_count)) in
        let four = gimbals_most r.cmgs in
        let all = hold_at (part_limit_value r wheels thrusters) in
        let one : first ≡ stored all u r.wheel_count =
        rw (zero-add r.wheel_count) at (stored_rest (hold_at (at wheels)) all u 0 r.wheel_count (length u) (iter_none (put all) u) refl (omega arith) wheel_limit) in
        let two : second ≡ stored all u (r.wheel_count + r.thruster_count) =
        stored_rest (hold_at (at thrusters)) all u r.wheel_count r.thruster_count (length u) one refl room thruster_limit in
        rw (← fewer_past (r.wheel_count + r.thruster_count) (gimbals r.cmgs) (length u) room)
        (stored_rest (hold_at (at (replicate 4 (gimbal_rate r.cmgs)))) all u (r.wheel_count + r.thruster_count) _ (length u) two refl (omega arith) (λ k h. gimbal_limit k (omega arith)))
