-- The planner reads of the momenta the wheels and nothing else: momenta that are the same wheel by wheel, whatever stands past them, give the same plan. Assumes nothing.
use Rattle.std.specs.Prelude.{ℕ, zero, suc, ◌≡◌, Bool, cond, ◌&&◌, List, Float, Option, Some, None, Ok, Err}
use Rattle.std.proofs.Math.Path.{refl, ap}
use Rattle.std.proofs.Common.{◌∙◌, ltb-true}
use Rattle.std.proofs.Math.Bool.{true, false}
use Rattle.std.proofs.Math.Dec.{ltb}
use Rattle.common.specs.Floats.{plus_zero}
use Rattle.common.specs.Iter.{iter}
use Rattle.common.specs.Lists.{at}
use Rattle.geom.specs.declared.Quat.{Quat}
use Rattle.geom.specs.Vec.{tensor}
use Rattle.geom.specs.Quats.{normalized}
use Rattle.geom.specs.Tensors.{invert_spd}
use Rattle.actuators.specs.Prepare.{Prepared, prepare}
use Rattle.actuators.specs.declared.ActuatorMap.{ActuatorMap}
use Rattle.problem.specs.Problems as Problems
use Rattle.problem.specs.Starts.{start_fits_value, wheel_starts, leading_turn, leading_starts, checked_by, check_starts, place_start, placed}
use Rattle.problem.specs.StartLaws.{starts_passed}
use Rattle.problem.specs.declared.Momenta.{Momenta}
use Rattle.problem.specs.declared.Problem.{Problem}
use Rattle.problem.specs.declared.Checked.{Checked}
use Rattle.planner.specs.Plans.{plan, plan_by, plan_from, plan_from_by}
use Rattle.wheel_momenta.specs.Successive.{with_momenta}
use Rattle.wheel_record.specs.Commits.{same}
use Rattle.wheel_record.specs.CommitLaws.{Alike, same_alike}
use Rattle.common.specs.Refusals.{Fate}
use Rattle.std.specs.Prelude.{Result}
use Rattle.common.specs.declared.Refusal.{Refusal}

-- loops whose turns are the same
iter_same : {A : Type 0} (f g : ℕ → A → A) (a : A) → ((k : ℕ) (x : A) → f k x ≡ g k x) → (n : ℕ) → iter f a n ≡ iter g a n
unfolding iter
iter_same f g a h zero = refl
iter_same f g a h (suc k) = ap (f k) (iter_same f g a h k) ∙ h k (iter g a k)

module _ (m n : Momenta) (A : Alike m n) where
  -- ---- check 22
  wheel_same : (count : ℕ) (limits : List Float) (k : ℕ) → wheel_starts count limits m k ≡ wheel_starts count limits n k
  unfolding wheel_starts
  wheel_same count limits k = by (ltb k m.count) refl
    where
      by : (b : Bool) → ltb k m.count ≡ b → (ltb k count && (ltb k m.count && start_fits_value (at limits k) (at m.at k))) ≡ (ltb k count && (ltb k n.count && start_fits_value (at limits k) (at n.at k)))
      by true e = rw (← A.count, A.each k (ltb-true k m.count e)) refl
      by false e = rw (← A.count, e) refl

  starts_same : (count : ℕ) (limits : List Float) → check_starts count limits m ≡ check_starts count limits n
  unfolding check_starts leading_starts
  starts_same count limits =
      ap (λ (k : ℕ). checked_by k count m.count) (iter_same (leading_turn count limits m) (leading_turn count limits n) 0 (λ k r. rw (wheel_same count limits k) refl) 8)
      ∙ ap (checked_by (iter (leading_turn count limits n) 0 8) count) A.count

  -- ---- the starts in their places
  place_same : (count k : ℕ) → m.count ≡ count → place_start count k (at m.at k) ≡ place_start count k (at n.at k)
  place_same count k c = by (ltb k count) refl
    where
      by : (b : Bool) → ltb k count ≡ b → cond b (at m.at k) plus_zero ≡ cond b (at n.at k) plus_zero
      by true e = A.each k (rw c (ltb-true k count e))
      by false e = refl

  placed_same : (count : ℕ) → m.count ≡ count → placed count m.at ≡ placed count n.at
  unfolding placed
  placed_same count c =
      rw (place_same count 0 c, place_same count 1 c, place_same count 2 c, place_same count 3 c, place_same count 4 c, place_same count 5 c, place_same count 6 c, place_same count 7 c) refl

  -- ---- every check of a problem p
  module _ (p : Problem) (map : ActuatorMap) where
    attitudes_same : m.count ≡ map.wheel_count → (q0 qf : Quat) → Problems.with_attitudes (with_momenta p m) map q0 qf ≡ Problems.with_attitudes (with_momenta p n) map q0 qf
    unfolding Problems.with_attitudes
    attitudes_same c q0 qf = by (invert_spd (tensor p.inertia))
      where
        by : (e : Result (List Float) Refusal) → Problems.inverted_by e (with_momenta p m) map q0 qf ≡ Problems.inverted_by e (with_momenta p n) map q0 qf
        by (Ok _) = rw (placed_same map.wheel_count c) refl
        by (Err why) = refl

    with_starts_same : m.count ≡ map.wheel_count → Problems.with_starts (with_momenta p m) map ≡ Problems.with_starts (with_momenta p n) map
    unfolding Problems.with_starts
    with_starts_same c = first (normalized p.norm_tolerance p.q0)
      where
        second : (q0 : Quat) (x : Option Quat) → Problems.final_by x (with_momenta p m) map q0 ≡ Problems.final_by x (with_momenta p n) map q0
        second q0 None = refl
        second q0 (Some qf) = attitudes_same c q0 qf

        first : (x : Option Quat) → Problems.start_by x (with_momenta p m) map ≡ Problems.start_by x (with_momenta p n) map
        first None = refl
        first (Some q0) = second q0 (normalized p.norm_tolerance p.qf)

    map_same : Problems.with_map (with_momenta p m) map ≡ Problems.with_map (with_momenta p n) map
    unfolding Problems.with_map Problems.numbers_fit
    map_same = numbers (Problems.numbers_fit (with_momenta p m))
      where
        momenta : (e : Fate) → check_starts map.wheel_count map.wheel_momenta m ≡ e → Problems.momenta_by e (with_momenta p m) map ≡ Problems.momenta_by e (with_momenta p n) map
        momenta (Ok _) e = with_starts_same (starts_passed map.wheel_count map.wheel_momenta m e).count
        momenta (Err why) e = refl

        numbers : (b : Bool) → cond b (Problems.momenta_by (check_starts map.wheel_count map.wheel_momenta m) (with_momenta p m) map) (Problems.refused 4 0)
            ≡ cond b (Problems.momenta_by (check_starts map.wheel_count map.wheel_momenta n) (with_momenta p n) map) (Problems.refused 4 0)
        numbers true = rw (← starts_same map.wheel_count map.wheel_momenta) (momenta (check_starts map.wheel_count map.wheel_momenta m) refl)
        numbers false = refl

  pub check_same : (p : Problem) → Problems.check (with_momenta p m) ≡ Problems.check (with_momenta p n)
  unfolding Problems.check
  check_same p = by (prepare p.actuators)
    where
      by : (e : Prepared) → Problems.prepared_by e (with_momenta p m) ≡ Problems.prepared_by e (with_momenta p n)
      by (Ok map) = map_same p map
      by (Err why) = refl

-- ---- both entries
module _ (m n : Momenta) (e : same m n ≡ true) (p : Problem) where
  pub plan_same : (size : ℕ) → plan (with_momenta p m) size ≡ plan (with_momenta p n) size
  unfolding plan
  plan_same size = ap (λ (c : Checked). plan_by c.fate c.problem size) (check_same m n (same_alike m n e) p)

  pub plan_from_same : (duration : Float) (rates torques : List Float) (size : ℕ) → plan_from (with_momenta p m) duration rates torques size ≡ plan_from (with_momenta p n) duration rates torques size
  unfolding plan_from
  plan_from_same duration rates torques size = ap (λ (c : Checked). plan_from_by c.fate c.problem duration rates torques size) (check_same m n (same_alike m n e) p)
