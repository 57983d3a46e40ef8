-- Demand 1 of the definitions: beside a refusal, whose number, place and runs `Plans.answer` gives, no path stands. Assumes nothing.
use Rattle.std.specs.Prelude.{◌≡◌, refl, Bool, true, false, cond, ◌&&◌, List, ℕ, ltb, Float, Ok, Err}
use Rattle.std.proofs.Common.{arith}
use Rattle.common.specs.Answer.{Given}
use Rattle.common.specs.Answer as Answers
use Rattle.profile.specs.Seeds.{sample_seed}
use Rattle.profile.specs.declared.Profile.{Profile}
use Rattle.geom.specs.Vec.{is_positive_value}
use Rattle.problem.specs.Problems.{check}
use Rattle.problem.specs.declared.Problem.{Problem}
use Rattle.problem.specs.declared.CheckedProblem.{CheckedProblem}
use Rattle.seeds.specs.Seeds.{served}
use Rattle.scvx.specs.Search.{search, room}
use Rattle.scvx.specs.declared.Found.{Found}
use Rattle.end_checks.specs.Ends.{end_fate}
use Rattle.planner.specs.Plans as Plans
use Rattle.planner.specs.Blanks.{Blank}
use Rattle.planner.specs.declared.Path.{Path}
use Rattle.planner.specs.declared.Planned.{Planned}
use Rattle.common.specs.Refusals.{Fate, refusal, going}
use Rattle.common.specs.declared.Refusal.{Refusal}

-- ---- what holds of every refusal and of every path holds of every answer
module _ (Q : Planned → Type 0) (no : (why : Refusal) (runs : ℕ) → Q (Plans.refused why runs)) (yes : (c : CheckedProblem) (f : Found) (held : List ℕ) → Q (record { fate = going; runs = f.runs; path = Plans.path_of c f held })) where
  ended : (e : Fate) (c : CheckedProblem) (f : Found) (held : List ℕ) → Q (Plans.ended_by_value e c f held)
  ended (Ok _) c f held = yes c f held
  ended (Err why) c f held = no why f.runs

  found : (e : Fate) (c : CheckedProblem) (f : Found) (held : List ℕ) → Q (Plans.found_by e c f held)
  found (Ok _) c f held = ended (end_fate c f.run) c f held
  found (Err why) c f held = no why f.runs

  seeded : (c : CheckedProblem) (counted : Bool) (duration : Float) (torques : List Float) (size : ℕ) → Q (Plans.seeded c counted duration torques size)
  unfolding Plans.seeded Plans.answered
  seeded c counted duration torques size = go (counted && is_positive_value duration) (ltb size (room c))
    where
      f : Found
      f = search c (Plans.seed_of c duration torques)

      held : List ℕ
      held = Plans.seed_held_of c duration torques

      go : (a b : Bool) → Q (cond a (cond b (Plans.refused (refusal 9 0) 0) (Plans.answered c f held)) (Plans.refused (refusal 10 0) 0))
      go true true = no (refusal 9 0) 0
      go true false = found f.fate c f held
      go false b = no (refusal 10 0) 0

  with_seed_law : (c : CheckedProblem) (counted : Bool) (duration : Float) (torques : List Float) (size : ℕ) → Q (Plans.with_seed c counted duration torques size)
  unfolding Plans.with_seed
  with_seed_law c counted duration torques size = go (served c.map)
    where
      go : (e : Fate) → Q (Plans.served_by e c counted duration torques size)
      go (Ok _) = seeded c counted duration torques size
      go (Err why) = no why 0

  plan_from_is : (p : Problem) (duration : Float) (rates torques : List Float) (size : ℕ) → Q (Plans.plan_from p duration rates torques size)
  unfolding Plans.plan_from
  plan_from_is p duration rates torques size = go (check p).fate
    where
      go : (e : Fate) → Q (Plans.plan_from_by e (check p).problem duration rates torques size)
      go (Ok _) = with_seed_law (check p).problem (Plans.counted rates torques) duration torques size
      go (Err why) = no why 0

  profiled : (e : Fate) (c : CheckedProblem) (x : Profile) (size : ℕ) → Q (Plans.profiled_by e c x size)
  profiled (Ok _) c x size = with_seed_law c true (sample_seed x).duration (sample_seed x).torques size
  profiled (Err why) c x size = no why 0

  plan_is : (p : Problem) (size : ℕ) → Q (Plans.plan p size)
  unfolding Plans.plan Plans.with_profile
  plan_is p size = go (check p).fate
    where
      go : (e : Fate) → Q (Plans.plan_by e (check p).problem size)
      go (Ok _) = profiled (Plans.profiled (check p).problem).fate (check p).problem (Plans.profiled (check p).problem).profile size
      go (Err why) = no why 0

-- ---- NO PATH beside a refusal
refused_blank : (why : Refusal) (runs : ℕ) → Blank (Plans.refused why runs)
refused_blank why runs n k j e =
    let a : why.number ≡ n = cc in
    let b : why.place ≡ k = cc in
    let c : runs ≡ j = cc in
    rw (← a, ← b, ← c) refl

given_refused : {A : Type 0} {x : Path} {n k j : ℕ} → Given x ≡ Answers.Refused n k j → A
given_refused h = let z : ◌≡◌ {A = ℕ} 0 1 = cc in absurd (omega arith)

pub plan_blank : (p : Problem) (size : ℕ) → Blank (Plans.plan p size)
plan_blank = plan_is Blank refused_blank (λ c f held n k j e. given_refused e)

pub plan_from_blank : (p : Problem) (duration : Float) (rates torques : List Float) (size : ℕ) → Blank (Plans.plan_from p duration rates torques size)
plan_from_blank = plan_from_is Blank refused_blank (λ c f held n k j e. given_refused e)
