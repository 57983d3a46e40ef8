-- Where the body momentum is zero at each step that is begun, the published law and the planner's give the same run: the same refusal, or the same nodes and
-- defect bit for bit, signs of zeros too. Assumes nothing.
use Prim.Native.Nat.{ℕ, zero, suc, ◌≤◌}
use Rattle.std.specs.Prelude.{◌≡◌, Bool, true, false, cond, T, eqb, Float, Option, Some, None, Result, Ok, Err}
use Rattle.std.proofs.Math.Path.{refl, ap}
use Rattle.std.proofs.Common.{sym, ◌∙◌, arith}
use mathlib.Core.List.{List, [], ◌∷◌}
use Rattle.std.specs.Float.{binary64}
use Rattle.std.specs.Float.Ieee.{add, mul, of_bits}
use Rattle.std.specs.Float.Ieee.Fits.{mul-fits}
use Rattle.std.specs.Float.Ieee.Scale.{finite}
use Rattle.common.specs.Floats as Floats
use Rattle.common.specs.Iter.{iter}
use Rattle.common.specs.Lists.{at, slice}
use Rattle.float_laws.specs.Zeros.{is_zero, zero_absorbed, times_zero, zero_times, zero_less}
use Rattle.geom.specs.Vec as Vec
use Rattle.geom.specs.Quats.{quat_mul, exp_so3, normalized}
use Rattle.geom.specs.declared.Quat.{Quat}
use Rattle.actuators.specs.Maps.{control_dim}
use Rattle.control_rows.specs.Parts.{axes, wheel_by, wheel_part, parts_torque, row_torque}
use Rattle.control_rows.specs.declared.WheelLaw.{WheelLaw}
use Rattle.control_rows.specs.declared.WheelLaw.TheVariants.{Once, Published}
use Rattle.problem.specs.declared.Problem.{Problem}
use Rattle.problem.specs.declared.CheckedProblem.{CheckedProblem}
use Rattle.forward.specs.Decisions.{row_of, step_time}
use Rattle.forward.specs.Steps.{stop, matrix_at, rate_dot, rate_next, turn_of, defect_of, gimbal_row, step_gimbals, wheel_momenta_value, body_momentum, powered, gimbals_step, attitude_step, normed_step, turned_step, rated_step, torqued_step, matrix_step, step}
use Rattle.forward.specs.declared.Body.{Body}
use Rattle.forward.specs.Runs as Runs
use Rattle.forward.specs.Runs.{Rollout, start_of, advance, rollout_by, rollout_turn, rollout, end_by_value, end_of, run_from, body_of, run_under}
use Rattle.forward.specs.Reconstruct as Reconstruct
use Rattle.forward.specs.Reconstruct.{admit, reconstruct_by, reconstruct_under}
use Rattle.forward.specs.declared.BodyState.{BodyState}
use Rattle.run_laws.specs.Values.{goes, Fine3}
use Rattle.run_laws.specs.Attitudes.{exp_finite}
use Rattle.run_laws.specs.Steps.{turn_back}
use Rattle.published_law.specs.Published as Published
use Rattle.published_law.specs.Published.{under, Still, rollout_at, Unladen, UnladenRun}
use Rattle.common.specs.declared.Refusal.{Refusal}
use Rattle.forward.specs.declared.GimbalStep.{GimbalStep}
use Rattle.common.specs.Refusals.{Fate, going}
use Rattle.actuators.specs.Pyramid.{Jacobian}

-- ---- the torque of a row at a finite rate and no stored momentum
minus_one_finite : T (finite Vec.minus_one)
unfolding of_bits
minus_one_finite = tt

-- one part of the wheels' sum e, from which one part of ω × h, a zero, is taken
part_agrees : (e p q r s : Float) → T (finite p) → T (is_zero q) → T (finite r) → T (is_zero s)
    → add binary64 (add binary64 Floats.plus_zero (mul binary64 e Vec.minus_one)) (mul binary64 (Vec.minor p q r s) Vec.minus_one) ≡ add binary64 Floats.plus_zero (mul binary64 e Vec.minus_one)
part_agrees e p q r s P Q R S = zero_absorbed (mul binary64 e Vec.minus_one) _ (mul-fits binary64 _ _)
    (zero_times binary64 (Vec.minor p q r s) Vec.minus_one (zero_less binary64 (mul binary64 p q) (mul binary64 r s) (times_zero binary64 p q P Q) (times_zero binary64 r s R S)) minus_one_finite)

wheels_agree : (t : List Float) (n : ℕ) (u w h : List Float) → Fine3 w → Still h → wheel_part Published t n u w h Vec.zero3 ≡ wheel_part Once t n u w h Vec.zero3
unfolding wheel_part
wheels_agree t n u w h F S = go (eqb n 0)
  where
    eta : List Float
    eta = axes t u Vec.zero3 n

    less : List Float
    less = Vec.add3 Vec.zero3 (Vec.scale3 eta Vec.minus_one)

    parts : Vec.add3 less (Vec.scale3 (Vec.cross w h) Vec.minus_one) ≡ less
    parts = λ i.
        part_agrees (at eta 0) (at w 1) (at h 2) (at w 2) (at h 1) F.1 S.2 F.2 S.1 i
        ∷ part_agrees (at eta 1) (at w 2) (at h 0) (at w 0) (at h 2) F.2 S.0 F.0 S.2 i
        ∷ part_agrees (at eta 2) (at w 0) (at h 1) (at w 1) (at h 0) F.0 S.1 F.1 S.0 i
        ∷ []

    go : (c : Bool) → cond c Vec.zero3 (wheel_by Published less w h) ≡ cond c Vec.zero3 (wheel_by Once less w h)
    go true = refl
    go false = parts

module _ (b : Body) (u : List Float) (k : ℕ) (s : BodyState) where
  row_agrees : (a : List Float) → Fine3 s.w → Still s.h
      → row_torque (under Published b).rig b.wheels b.thrusters u s.w s.h a ≡ row_torque (under Once b).rig b.wheels b.thrusters u s.w s.h a
  unfolding row_torque parts_torque
  row_agrees a F S = rw (wheels_agree b.wheels b.rig.wheel_count (slice 0 b.rig.wheel_count u) s.w s.h F S) refl

-- ---- the stages after the torque do not ask for the law
module _ (b : Body) (l m : WheelLaw) (u : List Float) (k : ℕ) (s : BodyState) (tau : List Float) where
  module _ (defect : Float) (w2 : List Float) where
    powered_same : (q2 : Quat) (d : List Float) → powered (under l b) u k s tau defect w2 q2 d ≡ powered (under m b) u k s tau defect w2 q2 d
    unfolding powered wheel_momenta_value body_momentum
    powered_same q2 d = refl

    gimbals_same : (x : Result GimbalStep Refusal) (q2 : Quat) → gimbals_step x (under l b) u k s tau defect w2 q2 ≡ gimbals_step x (under m b) u k s tau defect w2 q2
    gimbals_same (Ok g) q2 = powered_same q2 g.delta
    gimbals_same (Err why) q2 = refl

    attitude_same : (q2 : Quat) → attitude_step (under l b) u k s tau defect w2 q2 ≡ attitude_step (under m b) u k s tau defect w2 q2
    unfolding attitude_step
    attitude_same q2 = gimbals_same (step_gimbals b.rig.cmgs (gimbal_row b.rig u) s.delta b.frame.dt k) q2

    normed_same : (x : Option Quat) → normed_step x (under l b) u k s tau defect w2 ≡ normed_step x (under m b) u k s tau defect w2
    normed_same None = refl
    normed_same (Some q2) = attitude_same q2

    turned_same : (x : Option Quat) → turned_step x (under l b) u k s tau defect w2 ≡ turned_step x (under m b) u k s tau defect w2
    turned_same None = refl
    turned_same (Some e) = normed_same (normalized b.frame.tolerance (quat_mul s.q e))

  torqued_same : torqued_step (under l b) u k s tau ≡ torqued_step (under m b) u k s tau
  unfolding torqued_step rated_step
  torqued_same = turned_same _ _ (exp_so3 _)

-- ---- a rate that is not finite is refused with 11, whatever the torque
module _ (b : Body) (u : List Float) (k : ℕ) (s : BodyState) (tau : List Float) (bad : Fine3 s.w → ⊥) where
  outside : (w2 : List Float) (x : Option Quat) → exp_so3 (turn_of s.w w2 b.frame.dt) ≡ x → x ≡ None
  outside w2 None e = refl
  outside w2 (Some q) e = absurd (bad (turn_back s.w w2 b.frame.dt (exp_finite (turn_of s.w w2 b.frame.dt) (rw e tt))).0)

  torqued_outside : torqued_step b u k s tau ≡ stop 11 k s
  unfolding torqued_step rated_step
  torqued_outside =
      let wd = rate_dot b.frame.j b.frame.jinv s.w s.h tau in
      let w2 = rate_next s.w wd b.frame.dt in
      ap (λ (x : Option Quat). turned_step x b u k s tau (defect_of b.frame.j s.w s.h tau wd) w2) (outside w2 (exp_so3 (turn_of s.w w2 b.frame.dt)) refl)

-- ---- ONE STEP from a state with no stored momentum, whatever its rate
module _ (b : Body) (u : List Float) (k : ℕ) (s : BodyState) (S : Still s.h) where
  abbrev torque_by : WheelLaw → List Float → List Float
  torque_by l a = row_torque (under l b).rig b.wheels b.thrusters u s.w s.h a

  torqued_agrees : (a : List Float) → torqued_step (under Published b) u k s (torque_by Published a) ≡ torqued_step (under Once b) u k s (torque_by Once a)
  torqued_agrees a = go (finite (at s.w 0)) (finite (at s.w 1)) (finite (at s.w 2)) refl refl refl
    where
      out : (Fine3 s.w → ⊥) → torqued_step (under Published b) u k s (torque_by Published a) ≡ torqued_step (under Once b) u k s (torque_by Once a)
      out bad = torqued_outside (under Published b) u k s (torque_by Published a) bad ∙ sym (torqued_outside (under Once b) u k s (torque_by Once a) bad)

      go : (x y z : Bool) → finite (at s.w 0) ≡ x → finite (at s.w 1) ≡ y → finite (at s.w 2) ≡ z
          → torqued_step (under Published b) u k s (torque_by Published a) ≡ torqued_step (under Once b) u k s (torque_by Once a)
      go true true true e f g = ap (torqued_step (under Published b) u k s) (row_agrees b u k s a (rw e tt, rw f tt, rw g tt) S) ∙ torqued_same b Published Once u k s (torque_by Once a)
      go false y z e f g = out (λ F. rw e at F.0)
      go true false z e f g = out (λ F. rw f at F.1)
      go true true false e f g = out (λ F. rw g at F.2)

  pub step_agrees : step (under Published b) u k s ≡ step (under Once b) u k s
  unfolding step
  step_agrees = go (matrix_at b.rig.cmgs s.delta)
    where
      go : (x : Jacobian) → matrix_step x (under Published b) u k s ≡ matrix_step x (under Once b) u k s
      go (Err why) = refl
      go (Ok a) = torqued_agrees a

-- ---- THE RUN
module _ (b : Body) (n : ℕ) (z : List Float) (from : BodyState) where
  turn_agrees : (k : ℕ) (x : Rollout) → (T (goes x.fate) → Still x.s.h) → rollout_turn (under Published b) n z k x ≡ rollout_turn (under Once b) n z k x
  unfolding rollout_turn
  turn_agrees k x S = go x.fate S
    where
      go : (f : Fate) → (T (goes f) → Still x.s.h) → rollout_by f (under Published b) n z k x ≡ rollout_by f (under Once b) n z k x
      go (Ok _) S = ap (advance b.frame.dt k x) (step_agrees b (row_of n z k) k x.s (S tt))
      go (Err why) S = refl

  rollouts_agree : Unladen (under Once b) n z from → (k : ℕ) → k ≤ 16 → rollout_at (under Published b) n z from k ≡ rollout_at (under Once b) n z from k
  unfolding iter
  rollouts_agree U zero l = refl
  rollouts_agree U (suc k) l = ap (rollout_turn (under Published b) n z k) (rollouts_agree U k (omega arith)) ∙ turn_agrees k (rollout_at (under Once b) n z from k) (U k (omega arith))

  -- for every body, row width, decision and start
  pub runs_agree : Unladen (under Once b) n z from → run_from (under Published b) n z from ≡ run_from (under Once b) n z from
  unfolding run_from end_of rollout
  runs_agree U = ap (λ (c : Rollout). end_by_value c.fate (under Published b) c) (rollouts_agree U 16 (omega arith)) ∙ same (rollout (under Once b) n z from).fate _
    where
      same : (f : Fate) (c : Rollout) → end_by_value f (under Published b) c ≡ end_by_value f (under Once b) c
      same (Ok _) c = refl
      same (Err why) c = refl

-- of a checked problem
pub run_agrees : (p : CheckedProblem) (z : List Float) → UnladenRun p z → Published.run_of p z ≡ Runs.run_of p z
unfolding run_under
run_agrees p z U = runs_agree (body_of p (step_time z)) (control_dim p.map) z (start_of p) U

-- RECONSTRUCT, as a user calls it: for every problem and decision, the problems that the checks refuse among them
pub reconstruct_agrees : (p : Problem) (z : List Float) → ((admit p).fate ≡ going → UnladenRun (admit p).problem z) → Published.reconstruct p z ≡ Reconstruct.reconstruct p z
unfolding reconstruct_under
reconstruct_agrees p z U = go (admit p).fate refl
  where
    go : (f : Fate) → (admit p).fate ≡ f → reconstruct_by f Published (admit p).problem z ≡ reconstruct_by f Once (admit p).problem z
    go (Ok _) e = λ i. record { runs = 1; run = run_agrees (admit p).problem z (U e) i }
    go (Err why) e = refl
