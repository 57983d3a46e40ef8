-- A checked problem has what the user declares: the attitudes normalized, the actuators' numbers, the wheels' starts. Assumes nothing.
use Rattle.std.specs.Prelude.{◌≡◌, Bool, true, false, not, cond, List, ltb, Float, Option, Some, None, Ok, Err}
use Rattle.std.proofs.Math.Path.{refl}
use Rattle.std.proofs.Common.{ap, ◌∙◌, arith, ltb→lt, nltb→le}
use Prim.Native.Nat.{ℕ, ◌+◌, ◌-◌, ◌<◌, ◌≤◌}
use Rattle.std.proofs.Math.Dec.{T}
use Rattle.common.specs.Lists.{at}
use Rattle.geom.specs.Vec.{tensor}
use Rattle.geom.specs.Quats.{normalized}
use Rattle.geom.specs.Tensors.{invert_spd}
use Rattle.geom.specs.declared.Quat.{Quat}
use Rattle.actuators.specs.Maps.{is_sized, is_empty, control_dim, wheel_at, thruster_at}
use Rattle.actuators.specs.Prepare.{Prepared, prepare}
use Rattle.actuators.specs.declared.ActuatorMap.{ActuatorMap}
use Rattle.control_limits.specs.Limits.{gimbal_rate, part_limit_value, limit_of}
use Rattle.control_rows.specs.declared.Rig.{Rig}
use Rattle.control_rows.specs.declared.WheelLaw.TheVariants.{Once}
use Rattle.problem.specs.Problems as Problems
use Rattle.problem.specs.Starts.{check_starts, placed}
use Rattle.problem.specs.StartLaws.{starts_passed}
use Rattle.problem.specs.declared.Problem.{Problem}
use Rattle.problem.specs.declared.CheckedProblem.{CheckedProblem}
use Rattle.run_laws.specs.Values.{goes}
use Rattle.run_laws.specs.Checked.{FitsP}
use Rattle.search_laws.specs.Answers.{limit_in}
use Rattle.search_laws.specs.Prepared.{prepare_fits, Declared, prepare_declared}
use Rattle.search_laws.specs.Declared.{Given, control_limit, controls_of, none}
use Rattle.common.specs.Refusals.{Fate}
use Rattle.std.specs.Prelude.{Result}
use Rattle.common.specs.declared.Refusal.{Refusal}

pub given_fits : (p : Problem) → Given p → FitsP p
given_fits p G = record { q0 = G.q0; qf = G.qf; limit = G.limit; slew = G.slew; tolerance = G.tolerance; map = prepare_fits p.actuators G.actuators; momenta = G.momenta }

-- ---- a checked problem is the user's: both attitudes normalized, its actuators prepared, one start a wheel
module _ (p : Problem) where
  pub record Same (c : CheckedProblem) : Type 0 where
    pub q0 : normalized p.norm_tolerance p.q0 ≡ Some c.q0
    pub qf : normalized p.norm_tolerance p.qf ≡ Some c.qf
    pub limit : c.torque_limit ≡ p.torque_limit
    pub map : Declared p.actuators c.map
    pub count : p.momenta.count ≡ p.actuators.wheel_count
    pub momenta : c.momenta ≡ placed p.actuators.wheel_count p.momenta.at

  module _ (m : ActuatorMap) (M : Declared p.actuators m) (count : p.momenta.count ≡ m.wheel_count) where
    inverted : (e : Result (List Float) Refusal) (q0 qf : Quat) → normalized p.norm_tolerance p.q0 ≡ Some q0 → normalized p.norm_tolerance p.qf ≡ Some qf
        → T (goes (Problems.inverted_by e p m q0 qf).fate) → Same (Problems.inverted_by e p m q0 qf).problem
    inverted (Err why) q0 qf f g t = absurd t
    inverted (Ok i) q0 qf f g t = record { q0 = f; qf = g; limit = refl; map = M; count = count ∙ M.wheels; momenta = ap (λ (n : ℕ). placed n p.momenta.at) M.wheels }

    final : (q0 : Quat) → normalized p.norm_tolerance p.q0 ≡ Some q0 → (x : Option Quat) → normalized p.norm_tolerance p.qf ≡ x → T (goes (Problems.final_by x p m q0).fate) → Same (Problems.final_by x p m q0).problem
    unfolding Problems.with_attitudes
    final q0 f None e t = absurd t
    final q0 f (Some qf) e t = inverted (invert_spd (tensor p.inertia)) q0 qf f e t

    begun : (x : Option Quat) → normalized p.norm_tolerance p.q0 ≡ x → T (goes (Problems.start_by x p m).fate) → Same (Problems.start_by x p m).problem
    begun None e t = absurd t
    begun (Some q0) e t = final q0 e (normalized p.norm_tolerance p.qf) refl t

  mapped : (m : ActuatorMap) → Declared p.actuators m → T (goes (Problems.with_map p m).fate) → Same (Problems.with_map p m).problem
  unfolding Problems.with_map Problems.with_starts
  mapped m M t = go (Problems.numbers_fit p) (check_starts n limits p.momenta) refl t
    where
      n : ℕ
      n = m.wheel_count

      limits : List Float
      limits = m.wheel_momenta

      go : (b : Bool) (e : Fate) → check_starts n limits p.momenta ≡ e
          → T (goes (cond b (Problems.momenta_by e p m) (Problems.refused 4 0)).fate) → Same (cond b (Problems.momenta_by e p m) (Problems.refused 4 0)).problem
      go true (Ok _) e t = begun m M (starts_passed n limits p.momenta e).count (normalized p.norm_tolerance p.q0) refl t
      go true (Err why) e t = absurd t
      go false f e t = absurd t

  -- CHECKED: what passed the checks is the user's
  pub check_same : T (goes (Problems.check p).fate) → Same (Problems.check p).problem
  unfolding Problems.check
  check_same t = go (prepare p.actuators) refl t
    where
      go : (e : Prepared) → prepare p.actuators ≡ e → T (goes (Problems.prepared_by e p).fate) → Same (Problems.prepared_by e p).problem
      go (Ok m) h t = mapped m (prepare_declared p.actuators h) t
      go (Err why) h t = absurd t

-- ---- the map's controls and limits are the user's
module _ (p : Problem) (m : ActuatorMap) (M : Declared p.actuators m) (sized : is_sized m ≡ true) where
  abbrev nw : ℕ
  nw = p.actuators.wheel_count

  abbrev nt : ℕ
  nt = p.actuators.thruster_count

  pub controls_same : control_dim m ≡ controls_of p.actuators
  unfolding control_dim is_empty
  controls_same = rw (sized, M.wheels, M.thrusters, M.cmgs) refl

  pub limit_same : (i : ℕ) → limit_in m p.torque_limit i ≡ control_limit p i
  unfolding limit_of
  limit_same i = rw (M.wheels, M.thrusters, M.cmgs) (either (none p.actuators) (at p.torque_limit) (part_limit_value rig m.wheel_torques m.thruster_torques) _ (part (ltb i nw) (ltb i (nw + nt)) (ltb→lt i nw) (nltb→le i nw) (ltb→lt i (nw + nt))))
    where
      rig : Rig
      rig = record { wheel_count = nw; thruster_count = nt; cmgs = p.actuators.cmgs; law = Once }

      either : (b : Bool) (f g : ℕ → Float) (y : Float) → g i ≡ y → cond b f g i ≡ cond b (f i) y
      either true f g y e = refl
      either false f g y e = e

      part : (a b : Bool) → (T a → i < nw) → (T (not a) → nw ≤ i) → (T b → i < nw + nt)
          → cond a (at m.wheel_torques i) (cond b (at m.thruster_torques (i - nw)) (gimbal_rate p.actuators.cmgs))
          ≡ cond a (wheel_at p.actuators.wheels i).max_torque_nm (cond b (thruster_at p.actuators.thrusters (i - nw)).max_torque_nm (gimbal_rate p.actuators.cmgs))
      part true b q r s = M.tables.torques.is i (q tt)
      part false true q r s = let x : nw ≤ i = r tt in let y : i < nw + nt = s tt in M.tables.thrusts.is (i - nw) (omega arith)
      part false false q r s = refl
