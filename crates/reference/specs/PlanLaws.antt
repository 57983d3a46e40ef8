-- A refusal before any trial keeps what an answer keeps. Assumes nothing.
use Rattle.std.specs.Prelude.{ℕ, ◌≡◌, ◌≤◌, refl, List, Float, Option, Some, None, Result, Ok, Err, IfOk}
use Rattle.problem.specs.declared.CheckedProblem.{CheckedProblem}
use Rattle.common.specs.declared.Refusal.{Refusal}
use Rattle.reference_motion.specs.Motion.{rotation_vector}
use Rattle.reference_motion.specs.declared.Reference.{Reference}
use Rattle.reference.specs.declared.layout.Layout.{Layout}
use Rattle.reference.specs.Layouts.{layout_of}
use Rattle.reference.specs.Prepare.{Prepared, gram_inverse, reference_of, prepare_by, prepare_layout, prepared_by, prepare_reference}
use Rattle.std.proofs.Common.{arith}
use Rattle.reference_checks.specs.PromisesKept.{never}
use Rattle.reference.specs.Plans as Plans

pub refused_answer : (why : Refusal) → Plans.Answer (Plans.refuse why)
unfolding Plans.blank_reference
refused_answer why = record { trials = omega arith; samples = omega arith; few = omega arith; steps = omega arith; promised = λ g. never {n = why.number} {i = why.place} g }

-- steps and axes of a reference, where there is one
abbrev Same : Prepared → ℕ → ℕ → Type 0
Same x n count = IfOk x (λ (r : Reference). (r.steps ≡ n) × (r.count ≡ count))

same_by : (i : Result (List Float) Refusal) (v : Option (Float × Float × Float)) (c : CheckedProblem) (l : Layout) (duration : Float) (n : ℕ) → Same (prepare_by i v c l duration n) n l.count
unfolding reference_of
same_by (Err why) v c l duration n = tt
same_by (Ok inverse) None c l duration n = tt
same_by (Ok inverse) (Some (x, y, z)) c l duration n = (refl, refl)

layout_same : (c : CheckedProblem) (l : Layout) (duration : Float) (n : ℕ) → Same (prepare_layout c l duration n) n l.count
unfolding prepare_layout
layout_same c l duration n = same_by (gram_inverse l) (rotation_vector c.q0 c.qf) c l duration n

few : (x : Prepared) (n count : ℕ) → Same x n count → count ≤ 12 → IfOk x (λ (r : Reference). r.count ≤ 12)
few (Err why) n count h k = tt
few (Ok r) n count h k = omega (arith, h.1)

pub layout_few : (c : CheckedProblem) (l : Layout) (duration : Float) (n : ℕ) → l.count ≤ 12 → IfOk (prepare_layout c l duration n) (λ (r : Reference). r.count ≤ 12)
layout_few c l duration n h = few (prepare_layout c l duration n) n l.count (layout_same c l duration n) h

steps_by : (m : Result Layout Refusal) (c : CheckedProblem) (duration : Float) (n : ℕ) → IfOk (prepared_by m c duration n) (λ (r : Reference). r.steps ≡ n)
steps_by (Err why) c duration n = tt
steps_by (Ok l) c duration n = go (prepare_layout c l duration n) (layout_same c l duration n)
  where
    go : (x : Prepared) → Same x n l.count → IfOk x (λ (r : Reference). r.steps ≡ n)
    go (Err why) h = tt
    go (Ok r) h = h.0

-- a prepared reference has the steps that it is prepared with
pub prepared_steps : (c : CheckedProblem) (duration : Float) (n : ℕ) {r : Reference} → prepare_reference c duration n ≡ Ok r → r.steps ≡ n
unfolding prepare_reference
prepared_steps c duration n h = rw h at (steps_by (layout_of c.map c.momenta c.torque_limit) c duration n)
