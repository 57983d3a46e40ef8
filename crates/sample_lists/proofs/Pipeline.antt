-- What is under way in turn j: sample j - 1 is placed, sample j - 2 turned, the rows before it stand. Assumes nothing.
use Prim.Native.Nat.{ℕ, ◌+◌, ◌-◌, ◌<◌, ◌≤◌}
use mathlib.Core.Path.{◌≡◌, ap, ◌∙◌}
use mathlib.Core.List.{List}
use native.Mathlib.Omega.{arith}
use lib.Ieee.{Float}
use Rattle.samples.specs.Samples.{Sampled, time_of}
use Rattle.sample_lists.specs.declared.stages.Placed.{Placed}
use Rattle.sample_lists.specs.declared.stages.Turning.{Turning}
use Rattle.sample_lists.specs.StagesInner.{StepRows, placed, turning, finished, timed}
use Rattle.sample_lists.specs.StageLaws.{finished_is}

module _ (nodes steps : List (List Float)) (duration : Float) (count : ℕ) where
  abbrev pub at : ℕ → Placed
  at k = placed nodes steps (time_of duration count k)

  abbrev pub IsPlaced : ℕ → Placed → Type 0
  IsPlaced n p = 1 ≤ n → n ≤ count → p ≡ at (n - 1)

  abbrev pub IsTurned : ℕ → Turning → Type 0
  IsTurned n q = 2 ≤ n → n < count + 2 → q ≡ turning (at (n - 2))

  pub place_next : (n : ℕ) {k : ℕ} {p : Placed} → p ≡ at k → (n < count → k ≡ n) → IsPlaced (n + 1) p
  place_next n {k} e h a b = let z : n ≡ n + 1 - 1 = omega arith in e ∙ ap at (h (omega (arith, b)) ∙ z)

  pub turn_next : (n : ℕ) {p : Placed} {q : Turning} → IsPlaced n p → q ≡ turning p → IsTurned (n + 1) q
  turn_next n h e a b = let z : n - 1 ≡ n + 1 - 2 = omega arith in e ∙ ap turning (h (omega (arith, a)) (omega (arith, b)) ∙ ap at z)

  pub finish_is : (j : List (List Float)) (tol : Float) (n : ℕ) {q : Turning} {r : Sampled} → StepRows j nodes steps → IsTurned n q → 2 ≤ n → n < count + 2 → r ≡ finished j tol nodes steps q (n - 2) → r ≡ timed j tol duration nodes count (n - 2)
  finish_is j tol n rows h a b e = e ∙ ap (λ (q : Turning). finished j tol nodes steps q (n - 2)) (h a b) ∙ finished_is j nodes steps rows tol (time_of duration count (n - 2)) (n - 2)
