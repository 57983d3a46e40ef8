-- WHAT A VERIFIED REFERENCE PROMISES, sample by sample and step by step. Definitions only.
use Rattle.std.specs.Prelude.{ℕ, ◌+◌, ◌<◌, ◌≤◌, ◌≡◌, true, List, [], ◌∷◌, T, ◌≤ℤ◌, Float, Some}
use Rattle.std.specs.Float.Ieee.{le, eq}
use Rattle.std.specs.Float.Ieee.Scale.{finite}
use Rattle.common.specs.Floats.{plus_zero}
use Rattle.common.specs.Lists.{at}
use Rattle.float.specs.Ops.{abs}
use Rattle.float_laws.specs.Exact.{exact}
use Rattle.geom.specs.Quats.{norm3}
use Rattle.geom.specs.declared.Quat.{Quat}
use Rattle.reference_motion.specs.declared.Reference.{Reference}
use Rattle.reference_motion.specs.declared.Sample.{Sample}
use Rattle.reference_motion.specs.Motion.{rotation_vector}
use Rattle.reference_motion.specs.Momenta.{body_vector}
use Rattle.reference_checks.specs.declared.Verdict.{Verdict}
use Rattle.reference_checks.specs.Checks as Checks
use Rattle.common.specs.Refusals.{going}

-- x is at most the limit l in size, as exact numbers and with no slack: both sides are whole numbers of 2 ^ -1074
pub record AtMost (x l : Float) : Type 0 where
  pub fine : T (finite x)
  pub most : exact (abs x) ≤ℤ exact l

-- ---- a sample

-- the wheels' momenta h are within their limits, and A h is Rᵀ H₀ - J w but for a computed length of at most 1e-9 (1 + |H₀|)
pub record WheelsWithin (r : Reference) (s : Sample) : Type 0 where
  pub momenta : (i : ℕ) → i < r.count → AtMost (at s.h i) (at r.momentum_limits i)
  pub balance : Checks.is_balanced r s ≡ true

-- its sine and cosine are in range, the computed length of its rate is within the slew limit, its wheels are within theirs
pub record SampleWithin (r : Reference) (s : Sample) : Type 0 where
  pub goes : s.fate ≡ going
  pub rate : (limit : Float) → r.slew ≡ Some limit → AtMost (norm3 s.w) limit
  pub wheels : r.wheels ≡ true → WheelsWithin r s

-- ---- a step

-- the controls u of step k, their body torque A u and, with wheels, their powers are within their limits
pub record StepWithin (r : Reference) (k : ℕ) (u : List Float) : Type 0 where
  pub controls : (i : ℕ) → i < r.count → AtMost (at u i) (at r.limits i)
  pub torques : (i : ℕ) → i < 3 → AtMost (at (body_vector r.axes r.count u) i) (at r.torque_limit i)
  pub powers : r.wheels ≡ true → (i : ℕ) → i < r.count → AtMost (at (Checks.powers_of r u k) i) (at r.power_limits i)

-- ---- the start and the end

-- no rate
abbrev pub AtRest : List Float → Type 0
AtRest w = (i : ℕ) → i < 3 → eq (at w i) plus_zero ≡ true

-- no rate, the attitude q0, the start momenta: equal as numbers, so the same bits but for the sign of a zero
pub record AtStart (r : Reference) (s : Sample) : Type 0 where
  pub rest : AtRest s.w
  pub attitude : Checks.equal_attitudes s.q r.q0 ≡ true
  pub momenta : (i : ℕ) → i < r.count → eq (at s.h i) (at r.start i) ≡ true

-- no rate, and an attitude whose computed distance from qf is at most 1e-9
pub record AtEnd (s : Sample) (qf : Quat) : Type 0 where
  pub rest : AtRest s.w
  pub x : Float
  pub y : Float
  pub z : Float
  pub error : rotation_vector s.q qf ≡ Some (x, y, z)
  pub small : le (norm3 (x ∷ y ∷ z ∷ [])) Checks.tolerance ≡ true

-- ---- THE PROMISE
pub record Promised (r : Reference) : Type 0 where
  pub times : Checks.times_fit r ≡ true
  pub start : AtStart r (Checks.sample_of r 0)
  pub samples : (k : ℕ) → k ≤ r.steps → SampleWithin r (Checks.sample_of r k)
  pub steps : (k : ℕ) → k < r.steps → StepWithin r k (Checks.controls_of r k)
  pub end : AtEnd (Checks.sample_of r r.steps) r.qf

-- ---- what the code answers

-- a verdict is the definition's, after at most so many samples
pub record Counted (v meant : Verdict) (most : ℕ) : Type 0 where
  pub is : v ≡ meant
  pub few : v.samples ≤ most

pub record Verified (r : Reference) (v : Verdict) : Type 0 where
  pub is : v ≡ Checks.verify r
  pub few : v.samples ≤ r.steps + 2
  pub promised : v.fate ≡ going → Promised r
