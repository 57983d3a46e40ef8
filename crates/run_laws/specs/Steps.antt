-- One step that goes on: everything runs back from the exponential, which is refused unless its vector is finite. Assumes nothing.
use Rattle.std.specs.Prelude.{◌≡◌, refl, Bool, true, false, cond, List, ℕ, T, Float, Option, Some, None, Result, Ok, Err}
use Rattle.std.specs.Float.Ieee.{lt}
use Rattle.std.specs.Float.Ieee.Scale.{finite}
use Rattle.common.specs.Lists.{at, slice}
use Rattle.float_laws.specs.Finite.{finites}
use Rattle.geom.specs.Vec as Vec
use Rattle.geom.specs.Quats.{quat_mul, exp_so3, normalized}
use Rattle.geom.specs.declared.Quat.{Quat}
use Rattle.control_rows.specs.Parts.{row_torque}
use Rattle.control_limits.specs.Limits.{power_excess}
use Rattle.forward.specs.Steps.{stop, matrix_at, rate_dot, rate_next, turn_of, defect_of, gimbal_row, step_gimbals, state_next, slack, powered, gimbals_step, attitude_step, normed_step, turned_step, rated_step, torqued_step, matrix_step, step}
use Rattle.forward.specs.declared.Body.{Body}
use Rattle.forward.specs.declared.BodyState.{BodyState}
use Rattle.forward.specs.declared.Stepped.{Stepped}
use Rattle.run_laws.specs.Values.{goes, Fine3}
use Rattle.run_laws.specs.Attitudes.{is_turned, exp_finite, Normed, normalized_is}
use Rattle.common.specs.declared.Refusal.{Refusal}
use Rattle.forward.specs.declared.GimbalStep.{GimbalStep}
use Rattle.common.specs.Refusals.{Fate, going}
use Rattle.actuators.specs.Pyramid.{Jacobian}

-- ---- back from the turn to the rates and the time of a step
pub turn_back : (w w2 : List Float) (dt : Float) → Fine3 (turn_of w w2 dt) → Fine3 w × Fine3 w2 × T (finite dt)
unfolding turn_of
turn_back w w2 dt t = search finites

-- back from the new rate to the torque and the stored momentum
change_back : (j jinv w h tau : List Float) → T (finite (at (rate_dot j jinv w h tau) 0)) → T (finite (at tau 0)) × T (finite (at tau 1)) × T (finite (at tau 2)) × T (finite (at h 0)) × T (finite (at h 1)) × T (finite (at h 2))
unfolding rate_dot
change_back j jinv w h tau t = search finites depth 12

rate_back : (w wd : List Float) (dt : Float) → Fine3 (rate_next w wd dt) → T (finite (at wd 0))
unfolding rate_next
rate_back w wd dt t = search finites

-- What a step g with the row u from the state s is, where it goes on: finite rates at both ends, finite torque and stored momentum, and how its torque,
-- rate, attitude and state were made. a is the pyramid's matrix, d the gimbals' angles, e the turn.
pub record Once (b : Body) (u : List Float) (s : BodyState) (g : Stepped) : Type 0 where
  pub w : Fine3 s.w
  pub w2 : Fine3 g.s.w
  pub tau : Fine3 g.tau
  pub h : Fine3 s.h
  pub dt : T (finite b.frame.dt)
  pub a : List Float
  pub is_tau : g.tau ≡ row_torque b.rig b.wheels b.thrusters u s.w s.h a
  pub is_w2 : g.s.w ≡ rate_next s.w (rate_dot b.frame.j b.frame.jinv s.w s.h g.tau) b.frame.dt
  pub d : List Float
  pub is_s : g.s ≡ state_next b u s g.s.w g.s.q d
  pub e : Quat
  pub attitude : Normed b.frame.tolerance (quat_mul s.q e) g.s.q

module _ (b : Body) (u : List Float) (k : ℕ) (s : BodyState) (a : List Float) where
  abbrev tau0 : List Float
  tau0 = row_torque b.rig b.wheels b.thrusters u s.w s.h a

  abbrev wd0 : List Float
  wd0 = rate_dot b.frame.j b.frame.jinv s.w s.h tau0

  abbrev rate2 : List Float
  rate2 = rate_next s.w wd0 b.frame.dt

  abbrev turn0 : List Float
  turn0 = turn_of s.w rate2 b.frame.dt

  module _ (defect : Float) where
    powered_goes : (e q2 : Quat) (d : List Float) → Fine3 turn0 → Normed b.frame.tolerance (quat_mul s.q e) q2 → T (goes (powered b u k s tau0 defect rate2 q2 d).fate) → Once b u s (powered b u k s tau0 defect rate2 q2 d)
    unfolding powered
    powered_goes e q2 d f n t = go (lt slack (power_excess b.wheels b.powers b.rig.wheel_count (slice 0 b.rig.wheel_count u) s.w)) t
      where
        done : Stepped
        done = record { fate = going; s = state_next b u s rate2 q2 d; tau = tau0; defect = defect }

        ok : Once b u s done
        ok =
            let r = turn_back s.w rate2 b.frame.dt f in
            let c = change_back b.frame.j b.frame.jinv s.w s.h tau0 (rate_back s.w wd0 b.frame.dt r.1) in
            record { w = r.0; w2 = r.1; tau = (c.0, c.1, c.2); h = (c.3, c.4, c.5); dt = r.2; a = a; is_tau = refl; is_w2 = refl; d = d; is_s = refl; e = e; attitude = n }

        go : (c : Bool) → T (goes (cond c (stop 13 k s) done).fate) → Once b u s (cond c (stop 13 k s) done)
        go true t = absurd t
        go false t = ok

    gimbals_goes : (e q2 : Quat) (x : Result GimbalStep Refusal) → Fine3 turn0 → Normed b.frame.tolerance (quat_mul s.q e) q2 → T (goes (gimbals_step x b u k s tau0 defect rate2 q2).fate) → Once b u s (gimbals_step x b u k s tau0 defect rate2 q2)
    gimbals_goes e q2 (Ok g) f n t = powered_goes e q2 g.delta f n t
    gimbals_goes e q2 (Err why) f n t = absurd t

    attitude_goes : (e q2 : Quat) → Fine3 turn0 → Normed b.frame.tolerance (quat_mul s.q e) q2 → T (goes (attitude_step b u k s tau0 defect rate2 q2).fate) → Once b u s (attitude_step b u k s tau0 defect rate2 q2)
    unfolding attitude_step
    attitude_goes e q2 f n t = gimbals_goes e q2 (step_gimbals b.rig.cmgs (gimbal_row b.rig u) s.delta b.frame.dt k) f n t

    normed_goes : (e : Quat) (m : Option Quat) → normalized b.frame.tolerance (quat_mul s.q e) ≡ m → Fine3 turn0 → T (goes (normed_step m b u k s tau0 defect rate2).fate) → Once b u s (normed_step m b u k s tau0 defect rate2)
    normed_goes e None h f t = absurd t
    normed_goes e (Some q2) h f t = attitude_goes e q2 f (normalized_is b.frame.tolerance (quat_mul s.q e) q2 h) t

    turned_goes : (m : Option Quat) → (T (is_turned m) → Fine3 turn0) → T (goes (turned_step m b u k s tau0 defect rate2).fate) → Once b u s (turned_step m b u k s tau0 defect rate2)
    turned_goes None f t = absurd t
    turned_goes (Some e) f t = normed_goes e (normalized b.frame.tolerance (quat_mul s.q e)) refl (f tt) t

  torqued_goes : T (goes (torqued_step b u k s tau0).fate) → Once b u s (torqued_step b u k s tau0)
  unfolding torqued_step rated_step
  torqued_goes t = turned_goes (defect_of b.frame.j s.w s.h tau0 wd0) (exp_so3 turn0) (exp_finite turn0) t

matrix_goes : (b : Body) (u : List Float) (k : ℕ) (s : BodyState) (x : Jacobian) → T (goes (matrix_step x b u k s).fate) → Once b u s (matrix_step x b u k s)
matrix_goes b u k s (Ok a) t = torqued_goes b u k s a t
matrix_goes b u k s (Err why) t = absurd t

-- ONE STEP that goes on
pub step_goes : (b : Body) (u : List Float) (k : ℕ) (s : BodyState) → T (goes (step b u k s).fate) → Once b u s (step b u k s)
unfolding step
step_goes b u k s t = matrix_goes b u k s (matrix_at b.rig.cmgs s.delta) t
