-- A sample by its three stages is the definition's: what a step's samples share is read from its row. Assumes nothing.
use Rattle.std.specs.Prelude.{ℕ, ◌+◌, ◌<◌, ◌≡◌, Bool, List, Float}
use Rattle.std.proofs.Math.Path.{refl}
use Rattle.std.proofs.Math.Bool.{true, false}
use Rattle.std.specs.Float.{binary64}
use Rattle.std.specs.Float.Ieee.{div, le}
use Rattle.geom.specs.Vec as Vec
use Rattle.geom.specs.declared.Quat.{Quat}
use Rattle.samples.specs.Samples.{time, attitude, rate, momentum, mean, rate_change, turned_by, turned, between, interpolate}
use Rattle.samples.specs.SampleLaws.{not_below}
use Rattle.sample_lists.specs.declared.stages.Placed.{Placed}
use Rattle.sample_lists.specs.declared.stages.Turning.{Turning}
use Rattle.sample_lists.specs.StagesInner.{step_row, step_time, step_torque, StepRows, walk, placed, placed_at, turning, amidst, finished}
use Rattle.sample_lists.specs.WalkLaws.{walk_below, walk_earlier}

module _ (j nodes steps : List (List Float)) (rows : StepRows j nodes steps) (tol t : Float) (index : ℕ) where
  between_staged : (i : ℕ) → i < 16 → amidst j tol nodes steps (turning (placed_at nodes steps t i)) index ≡ between j tol nodes i t index
  unfolding amidst between turned turning step_row rate_change
  between_staged i l = rw (rows i l) refl

  pub finished_is : finished j tol nodes steps (turning (placed nodes steps t)) index ≡ interpolate j tol nodes t index
  unfolding finished interpolate placed turning
  finished_is = by (le t (time nodes 0)) (le (time nodes 16) t) refl refl
    where
      by : (a b : Bool) → le t (time nodes 0) ≡ a → le (time nodes 16) t ≡ b → finished j tol nodes steps (turning (placed nodes steps t)) index ≡ interpolate j tol nodes t index
      by true b h k = rw h refl
      by false true h k = rw (h, k) refl
      by false false h k = rw (h, k, ← walk_earlier nodes t (not_below (time nodes 16) t k)) (between_staged (walk nodes t) (walk_below nodes t))

-- ---- in the code's steps
module _ (j : List (List Float)) (tol : Float) (nodes steps : List (List Float)) (p : Turning) (index : ℕ) {dt : Float} {w0 w1 w h0 h1 h jw l u x tau : List Float} {q : Quat}
    (a : dt ≡ step_time steps p.i) (b : w0 ≡ rate nodes p.i) (c : w1 ≡ rate nodes (p.i + 1)) (d : w ≡ mean w0 w1 (div binary64 p.s dt))
    (e : h0 ≡ momentum nodes p.i) (f : h1 ≡ momentum nodes (p.i + 1)) (g : h ≡ mean h0 h1 (div binary64 p.s dt))
    (k : jw ≡ Vec.apply_tensor j w) (m : l ≡ Vec.add3 jw h) (n : u ≡ step_torque steps p.i) (o : x ≡ Vec.cross w l) (r : tau ≡ Vec.add3 u x) (s : q ≡ attitude nodes p.i) where
  pub amidst_is : turned_by p.turn tol (record { t = p.t; q = q; w = w; tau = tau; h = h }) index ≡ amidst j tol nodes steps p index
  unfolding amidst
  amidst_is = rw (s, r, o, n, m, k, g, f, e, d, c, b, a)

pub turning_node : (p : Placed) → (turning p).i ≡ p.i
unfolding turning
turning_node p = refl
