-- How many forward runs an answer of either entry can have begun: at most 40 × (16 × 12 + 3) + 2, a refusal's too. Assumes nothing.
use Rattle.std.specs.Prelude.{ℕ, ◌≤◌, ◌≡◌, Bool, true, false, cond, ◌&&◌, List, ltb, Float, Ok, Err}
use Rattle.std.proofs.Math.Path.{refl}
use native.Mathlib.Omega.{arith}
use Rattle.actuators.specs.Maps.{is_sized, control_dim}
use Rattle.profile.specs.Seeds.{sample_seed}
use Rattle.problem.proofs.Passed.{passed_sized}
use Rattle.geom.specs.Vec.{is_positive_value}
use Rattle.problem.specs.Problems.{check}
use Rattle.problem.specs.declared.Problem.{Problem}
use Rattle.problem.specs.declared.CheckedProblem.{CheckedProblem}
use Rattle.seeds.specs.Seeds.{served}
use Rattle.seeds.specs.SeedLaws.{served_narrow}
use Rattle.scvx.specs.Search.{search, room}
use Rattle.search_laws.specs.Counts.{runs_most}
use Rattle.planner.specs.Plans as Plans
use Rattle.planner.specs.PlanLaws.{answered_runs}
use Rattle.common.specs.Refusals.{Fate, refusal, going}

-- ---- from a seed
module _ (c : CheckedProblem) (sized : is_sized c.map ≡ true) (counted : Bool) (t : Float) (torques : List Float) (size : ℕ) where
  searched : control_dim c.map ≤ 12 → (a b : Bool) → (cond a (cond b (Plans.refused (refusal 9 0) 0) (Plans.answered c (search c (Plans.seed_of c t torques)) (Plans.seed_held_of c t torques))) (Plans.refused (refusal 10 0) 0)).runs ≤ 7802
  searched h true true = omega arith
  searched h true false = omega (arith, answered_runs c (search c (Plans.seed_of c t torques)) (Plans.seed_held_of c t torques), runs_most c (Plans.seed_of c t torques))
  searched h false b = omega arith

  serves : (e : Fate) → served c.map ≡ e → (Plans.served_by e c counted t torques size).runs ≤ 7802
  unfolding Plans.seeded
  serves (Ok _) s = searched (served_narrow c.map sized s) (counted && is_positive_value t) (ltb size (room c))
  serves (Err why) s = omega arith

  with_seed_most : (Plans.with_seed c counted t torques size).runs ≤ 7802
  unfolding Plans.with_seed
  with_seed_most = serves (served c.map) refl

-- ---- THE BOUND, of both entries
module _ (p : Problem) (size : ℕ) where
  pub plan_from_most : (t : Float) (rates torques : List Float) → (Plans.plan_from p t rates torques size).runs ≤ 7802
  unfolding Plans.plan_from
  plan_from_most t rates torques = by (check p).fate refl
    where
      by : (e : Fate) → (check p).fate ≡ e → (Plans.plan_from_by e (check p).problem t rates torques size).runs ≤ 7802
      by (Ok _) h = with_seed_most (check p).problem (passed_sized p h) (Plans.counted rates torques) t torques size
      by (Err why) h = omega arith

  profiled_most : (check p).fate ≡ going → (e : Fate) → (Plans.profiled_by e (check p).problem (Plans.profiled (check p).problem).profile size).runs ≤ 7802
  profiled_most h (Ok _) =
      let s = sample_seed (Plans.profiled (check p).problem).profile in
      with_seed_most (check p).problem (passed_sized p h) true s.duration s.torques size
  profiled_most h (Err why) = omega arith

  pub plan_most : (Plans.plan p size).runs ≤ 7802
  unfolding Plans.plan Plans.with_profile
  plan_most = by (check p).fate refl
    where
      by : (e : Fate) → (check p).fate ≡ e → (Plans.plan_by e (check p).problem size).runs ≤ 7802
      by (Ok _) h = profiled_most h (Plans.profiled (check p).problem).fate
      by (Err why) h = omega arith
