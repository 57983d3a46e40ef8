-- What `prepare` leaves: at most 8 wheels and 12 thrusters, and every limit of a control or a momentum finite and above 0. Assumes nothing.
use Rattle.std.specs.Prelude.{◌≡◌, refl, Bool, true, false, not, ◌||◌, ℕ, ◌<◌, ◌≤◌, T, Float, Option, Some, None}
use Rattle.std.proofs.Common.{sym, ◌∙◌}
use Rattle.std.specs.Float.{binary64}
use Rattle.std.specs.Float.Ieee.{lt, le, fits}
use Rattle.std.specs.Float.Ieee.Fits.{and_l, and_r}
use Rattle.std.specs.Float.Ieee.Scale.{finite}
use Rattle.common.specs.Floats.{plus_zero}
use Rattle.common.specs.Lists.{at}
use Rattle.float_laws.specs.Limits.{Limit}
use Rattle.geom.specs.Vec.{is_positive_value}
use Rattle.actuators.specs.Prepare as Prepare
use Rattle.actuators.specs.ReadyLaws.{Sound, of_map, prepared}
use Rattle.actuators.specs.declared.CmgPyramid.{CmgPyramid}
use Rattle.actuators.specs.declared.Actuators.{Actuators}
use Rattle.actuators.specs.declared.ActuatorMap.{ActuatorMap}
use Rattle.common.specs.Refusals.{going}
use Rattle.std.specs.Prelude.{Ok}

-- ---- a number that is not outside its range is a limit
neither : (a b : Bool) → T (not (a || b)) → T (not a) × T (not b)
neither true b t = absurd t
neither false b t = (tt, t)

twice : (b : Bool) → T (not (not b)) → T b
twice true t = t
twice false t = t

passed : (b : Bool) → b ≡ false → T (not b)
passed b e = rw e tt

-- finite and above 0
pub limit_of_law : (x : Float) → T (fits binary64 x) → T (is_positive_value x) → Limit x
limit_of_law x g t = record { fit = g; fine = and_l (finite x) (lt plus_zero x) t; over = and_r (finite x) (lt plus_zero x) t }

inside : (x : Float) → T (fits binary64 x) → T (not (Prepare.outside x)) → Limit x
unfolding Prepare.outside
inside x g t = limit_of_law x g (twice (is_positive_value x) t)

rate_inside : (y : CmgPyramid) → T (fits binary64 y.max_gimbal_rate_rad_s) → T (not (Prepare.pyramid_outside y)) → Limit y.max_gimbal_rate_rad_s
unfolding Prepare.pyramid_outside
rate_inside y g t =
    let a1 = Prepare.outside y.skew_rad in
    let a2 = le Prepare.skew_end y.skew_rad in
    let a3 = Prepare.outside y.wheel_momentum_nms in
    let a4 = Prepare.outside y.max_gimbal_rate_rad_s in
    inside y.max_gimbal_rate_rad_s g (neither (a1 || a2 || a3) a4 (neither (a1 || a2 || a3 || a4) (Prepare.outside y.singularity_eps) t).0).1

-- ---- a map whose limits f64 holds, as every map of a program does
abbrev pub RateFits : Option CmgPyramid → Type 0
RateFits None = Unit {0}
RateFits (Some y) = T (fits binary64 y.max_gimbal_rate_rad_s)

pub record FitsM (m : ActuatorMap) : Type 0 where
  pub torque : (k : ℕ) → T (fits binary64 (at m.wheel_torques k))
  pub momentum : (k : ℕ) → T (fits binary64 (at m.wheel_momenta k))
  pub thrust : (k : ℕ) → T (fits binary64 (at m.thruster_torques k))
  pub rate : RateFits m.cmgs

-- a pyramid's rate
abbrev pub RateOk : Option CmgPyramid → Type 0
RateOk None = Unit {0}
RateOk (Some y) = Limit y.max_gimbal_rate_rad_s

-- PREPARED: what a map that `prepare` gives is
pub record MapOk (m : ActuatorMap) : Type 0 where
  pub wheels : m.wheel_count ≤ 8
  pub thrusters : m.thruster_count ≤ 12
  pub torques : (i : ℕ) → i < m.wheel_count → Limit (at m.wheel_torques i)
  pub momenta : (i : ℕ) → i < m.wheel_count → Limit (at m.wheel_momenta i)
  pub thrusts : (i : ℕ) → i < m.thruster_count → Limit (at m.thruster_torques i)
  pub rate : RateOk m.cmgs

module _ (a : Actuators) (m : ActuatorMap) (F : FitsM m) (S : Sound a m) where
  rate_ok : (c : Option CmgPyramid) → m.cmgs ≡ c → RateFits c → RateOk c
  rate_ok None e g = tt
  rate_ok (Some y) e g = rate_inside y g (passed (Prepare.pyramid_outside y) (S.pyramid y (sym S.ready.gyros ∙ e)))

  sound_ok : MapOk m
  sound_ok = record {
    wheels = rw S.ready.wheels S.wheels_fit;
    thrusters = rw S.ready.thrusters S.thrusters_fit;
    torques = λ i h. inside (at m.wheel_torques i) (F.torque i) (passed (Prepare.outside (at m.wheel_torques i)) (S.ready.torques i (rw S.ready.wheels at h)));
    momenta = λ i h. inside (at m.wheel_momenta i) (F.momentum i) (passed (Prepare.outside (at m.wheel_momenta i)) (S.ready.momenta i (rw S.ready.wheels at h)));
    thrusts = λ i h. inside (at m.thruster_torques i) (F.thrust i) (passed (Prepare.outside (at m.thruster_torques i)) (S.ready.thrusts i (rw S.ready.thrusters at h)));
    rate = rate_ok m.cmgs refl F.rate;
  }

pub prepare_ok : (a : Actuators) → FitsM (Prepare.map_or_blank (Prepare.prepare a)) → {m : ActuatorMap} → Prepare.prepare a ≡ Ok m → MapOk m
prepare_ok a F {m} e = sound_ok a m (rw e at F) (of_map (Sound a) (prepared a) e)
