-- The reference of a checked problem. Definitions only.
use Rattle.std.specs.Prelude.{ℕ, List, [], ◌∷◌, replicate, Float, Option, Some, None, Result, Ok, Err}
use Rattle.common.specs.Floats.{one, plus_zero}
use Rattle.geom.specs.Vec.{tensor}
use Rattle.geom.specs.Tensors.{invert3}
use Rattle.problem.specs.declared.CheckedProblem.{CheckedProblem}
use Rattle.reference_motion.specs.declared.Reference.{Reference}
use Rattle.reference.specs.declared.layout.Layout.{Layout}
use Rattle.reference_motion.specs.Motion.{rotation_vector}
use Rattle.reference_motion.specs.Momenta.{gram_matrix, body_vector, allocate, subtract_scaled}
use Rattle.reference.specs.Layouts.{layout_of}
use Rattle.common.specs.Refusals.{refusal}
use Rattle.common.specs.declared.Refusal.{Refusal}

-- (A Aᵀ)⁻¹
unfoldable pub gram_inverse : Layout → Result (List Float) Refusal
gram_inverse l = invert3 (tensor (gram_matrix l.axes l.count))

-- H₀ = A h₀
unfoldable pub total_momentum : Layout → List Float
total_momentum l = body_vector l.axes l.count l.start

-- the null-space part of the start momenta: h₀ - A⁺ H₀
unfoldable pub null_momenta_value : Layout → List Float → List Float → List Float
null_momenta_value l inverse total = subtract_scaled l.start (allocate l.axes l.count inverse (replicate 12 plus_zero) total) one

unfoldable pub reference_of : CheckedProblem → Layout → List Float → List Float → Float → ℕ → Reference
reference_of c l inverse phi duration steps = record {
  q0 = c.q0;
  qf = c.qf;
  phi = phi;
  duration = duration;
  steps = steps;
  inertia = c.inertia;
  torque_limit = c.torque_limit;
  slew = c.slew;
  wheels = l.wheels;
  count = l.count;
  axes = l.axes;
  inverse = inverse;
  limits = l.limits;
  momentum_limits = l.momentum_limits;
  power_limits = l.power_limits;
  start = l.start;
  total = total_momentum l;
  null_momenta = null_momenta_value l inverse (total_momentum l);
}

-- a reference, or a refusal
abbrev pub Prepared : Type 0
Prepared = Result Reference Refusal

-- 6 at place 1 where the axes do not span, then 11 where there is no rotation vector
abbrev pub prepare_by : Result (List Float) Refusal → Option (Float × Float × Float) → CheckedProblem → Layout → Float → ℕ → Prepared
prepare_by (Err why) rotation c l duration steps = Err (refusal 6 1)
prepare_by (Ok inverse) None c l duration steps = Err (refusal 11 0)
prepare_by (Ok inverse) (Some (x, y, z)) c l duration steps = Ok (reference_of c l inverse (x ∷ y ∷ z ∷ []) duration steps)

unfoldable pub prepare_layout : CheckedProblem → Layout → Float → ℕ → Prepared
prepare_layout c l duration steps = prepare_by (gram_inverse l) (rotation_vector c.q0 c.qf) c l duration steps

-- the table's refusal before that
abbrev pub prepared_by : Result Layout Refusal → CheckedProblem → Float → ℕ → Prepared
prepared_by (Err why) c duration steps = Err why
prepared_by (Ok l) c duration steps = prepare_layout c l duration steps

unfoldable pub prepare_reference : CheckedProblem → Float → ℕ → Prepared
prepare_reference c duration steps = prepared_by (layout_of c.map c.momenta c.torque_limit) c duration steps

-- the same of another duration and step count
unfoldable pub with_times : Reference → Float → ℕ → Reference
with_times r duration steps = record {
  q0 = r.q0;
  qf = r.qf;
  phi = r.phi;
  duration = duration;
  steps = steps;
  inertia = r.inertia;
  torque_limit = r.torque_limit;
  slew = r.slew;
  wheels = r.wheels;
  count = r.count;
  axes = r.axes;
  inverse = r.inverse;
  limits = r.limits;
  momentum_limits = r.momentum_limits;
  power_limits = r.power_limits;
  start = r.start;
  total = r.total;
  null_momenta = r.null_momenta;
}
