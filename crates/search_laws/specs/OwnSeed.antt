-- f64 holds every number of the seed that our own entry takes from a profile. Assumes nothing.
use Rattle.std.specs.Prelude.{Bool, true, false, cond, List, [], ◌++◌, ℕ, zero, suc, T, Float, Option, Some, None, Result, Ok, Err}
use Rattle.std.specs.Float.{binary64}
use Rattle.std.specs.Float.Ieee.{mul, lt, le, fits}
use Rattle.std.specs.Float.Ieee.Fits.{add-fits}
use Rattle.common.specs.Floats as Floats
use Rattle.common.specs.Iter.{iter}
use Rattle.float.specs.Ops.{abs, clamp}
use Rattle.angles.specs.Arcs.{acos_of}
use Rattle.geom.specs.Vec as Vec
use Rattle.geom.specs.Quats.{norm3, part, least}
use Rattle.geom.specs.declared.Quat.{Quat}
use Rattle.profile.specs.Profiles as Profiles
use Rattle.profile.specs.Seeds.{node_time, torques_to}
use Rattle.profile.specs.declared.Profile.{Profile}
use Rattle.profile.specs.declared.Profiled.{Profiled}
use Rattle.search_laws.specs.Fits.{Fit}
use Rattle.search_laws.specs.Seeds.{all_fit, append_fits, zero_fits}
use Rattle.common.specs.declared.Refusal.{Refusal}

-- ---- the torques
torque_fits : (p : Profile) (t : Float) → Fit (Profiles.torque_vec p t)
unfolding Profiles.torque_vec Vec.body_euler_torque
torque_fits p t = all_fit (Profiles.torque_vec p t) (add-fits binary64 _ _, (add-fits binary64 _ _, (add-fits binary64 _ _, tt)))

turns_fit : (p : Profile) (n : ℕ) → Fit (iter (λ (i : ℕ) (v : List Float). v ++ Profiles.torque_vec p (node_time p.duration i)) [] n)
unfolding iter
turns_fit p zero = all_fit [] tt
turns_fit p (suc n) = append_fits (iter (λ (i : ℕ) (v : List Float). v ++ Profiles.torque_vec p (node_time p.duration i)) [] n) (Profiles.torque_vec p (node_time p.duration n)) (turns_fit p n) (torque_fits p (node_time p.duration n))

pub torques_fit : (p : Profile) (n : ℕ) → Fit (torques_to p n)
unfolding torques_to
torques_fit p n = turns_fit p n

-- ---- the duration
abbrev Timed : Profiled → Type 0
Timed x = T (fits binary64 x.profile.duration)

either : (b : Bool) (x y : Profiled) → Timed x → Timed y → Timed (cond b x y)
either true x y p q = p
either false x y p q = q

module _ (q0 : Quat) (j : List (List Float)) (limit : List Float) (slew : Option Float) where
  switched : (axis : List Float) (theta alpha : Float) (s : Result (Float × Float × Float) Refusal) → Timed (Profiles.with_switches q0 j axis theta alpha s)
  switched axis theta alpha (Err why) = zero_fits
  switched axis theta alpha (Ok (acc, coast, peak)) = add-fits binary64 _ _

  accelerated : (axis : List Float) (theta : Float) (a : Option Float) → Timed (Profiles.with_alpha q0 j axis theta slew a)
  accelerated axis theta None = zero_fits
  accelerated axis theta (Some alpha) = switched axis theta alpha (Profiles.switch_times theta alpha slew)

  angled : (axis : List Float) (theta : Float) → Timed (Profiles.with_theta q0 j axis theta limit slew)
  unfolding Profiles.with_theta
  angled axis theta = either (Vec.is_positive_value theta) _ _ (accelerated axis theta (Profiles.alpha_from_box j axis limit)) zero_fits

  halved : (axis : List Float) (a : Option Float) → Timed (Profiles.with_half q0 j axis limit slew a)
  halved axis None = zero_fits
  halved axis (Some a) = angled axis (mul binary64 Vec.two a)

  pub duration_fits : (qf : Quat) (tie : Float) → Timed (Profiles.bang_coast_bang q0 qf j limit slew tie)
  unfolding Profiles.bang_coast_bang Profiles.with_relative
  duration_fits qf tie =
      let rel = Profiles.relative q0 qf in
      let n = norm3 (part rel) in
      let d = clamp Vec.minus_one Floats.one rel.w in
      either (lt n least) _ _ zero_fits (either (le (abs d) tie) _ _ zero_fits (halved (Profiles.axis_of rel n) (acos_of d)))
