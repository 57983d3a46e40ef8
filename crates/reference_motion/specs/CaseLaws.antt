-- With wheels and without: each case of the definitions that ask. Assumes nothing.
use Rattle.std.specs.Prelude.{ℕ, ◌≡◌, Bool, true, false, cond, List, Float}
use Rattle.std.specs.Float.{binary64}
use Rattle.std.specs.Float.Ieee.{div}
use Rattle.geom.specs.Vec.{sub3}
use Rattle.geom.specs.declared.Quat.{Quat}
use Rattle.reference_motion.specs.declared.Reference.{Reference}
use Rattle.reference_motion.specs.Motion.{to_float, mid_fraction}
use Rattle.reference_motion.specs.Momenta as Momenta

pub cond_yes : {A : Type 0} (b : Bool) (x y : A) → b ≡ true → x ≡ cond b x y
cond_yes b x y e = rw e

pub cond_no : {A : Type 0} (b : Bool) (x y : A) → b ≡ false → y ≡ cond b x y
cond_no b x y e = rw e

module _ (r : Reference) where
  pub momenta_wheels : (q : Quat) (w : List Float) (s : Float) → r.wheels ≡ true
      → Momenta.allocate r.axes r.count r.inverse (Momenta.subtract_scaled r.start r.null_momenta s) (sub3 (Momenta.required_momentum r q w) r.total) ≡ Momenta.momenta_at r q w s
  unfolding Momenta.momenta_at
  momenta_wheels q w s e = cond_yes r.wheels _ _ e

  pub momenta_stay : (q : Quat) (w : List Float) (s : Float) → r.wheels ≡ false → r.start ≡ Momenta.momenta_at r q w s
  unfolding Momenta.momenta_at
  momenta_stay q w s e = cond_no r.wheels _ _ e

  pub controls_wheels : (k : ℕ) (a b : List Float) → r.wheels ≡ true → Momenta.wheel_torques_value a b (div binary64 r.duration (to_float r.steps)) ≡ Momenta.controls r k a b
  unfolding Momenta.controls
  controls_wheels k a b e = cond_yes r.wheels _ _ e

  pub controls_thrusts : (k : ℕ) (a b : List Float) → r.wheels ≡ false → Momenta.thrusts_at r (mid_fraction k r.steps) ≡ Momenta.controls r k a b
  unfolding Momenta.controls
  controls_thrusts k a b e = cond_no r.wheels _ _ e
