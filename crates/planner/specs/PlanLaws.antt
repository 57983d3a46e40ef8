-- What the stages answer, in the code's steps, and what is left in the workspace. Assumes nothing.
use Rattle.std.specs.Prelude.{ℕ, ◌<◌, ◌≤◌, ◌≡◌, Bool, true, false, cond, ◌&&◌, List, eqb, length, replicate, Float, Ok, Err}
use Rattle.std.proofs.Math.Path.{refl}
use Rattle.std.proofs.Common.{arith}
use borrow.Author.Tests.{eqb-true, eq-eqb, ne_eqb, lt-ltb, le-ltb}
use Rattle.common.specs.Floats.{plus_zero}
use Rattle.geom.specs.Vec.{is_positive_value}
use Rattle.actuators.specs.Maps.{is_sized}
use Rattle.problem.proofs.Passed.{passed_sized}
use Rattle.problem.specs.Problems.{check}
use Rattle.problem.specs.declared.Checked.{Checked}
use Rattle.problem.specs.declared.CheckedProblem.{CheckedProblem}
use Rattle.problem.specs.declared.Problem.{Problem}
use Rattle.scvx.specs.Search.{search, room}
use Rattle.scvx.specs.declared.Found.{Found}
use Rattle.end_checks.specs.Ends.{end_fate}
use Rattle.planner.specs.Plans as Plans
use Rattle.common.specs.Refusals.{Fate, refusal, going}

-- where the checks pass, the actuators' counts are within their tables
pub sized_as : (p : Problem) {c : Checked} → c ≡ check p → c.fate ≡ going → is_sized c.problem.map ≡ true
sized_as p e h = rw e (passed_sized p (rw e at h))

-- ---- the count of a caller's seed
module _ (rates torques : List Float) where
  pub counted_not : (length rates ≡ 51 → ⊥) → false ≡ Plans.counted rates torques
  counted_not h = rw (ne_eqb _ _ h) refl

  pub counted_so : length rates ≡ 51 → eqb (length torques) 51 ≡ Plans.counted rates torques
  counted_so h = rw (eq-eqb _ _ h) refl

  second : (a b : Bool) → a && b ≡ true → b ≡ true
  second true b e = e
  second false b e = let z : true ≡ false = cc in cc

  pub counted_long : Plans.counted rates torques ≡ true → 48 ≤ length torques
  counted_long e = let z : length torques ≡ 51 = eqb-true _ _ (second (eqb (length rates) 51) (eqb (length torques) 51) e) in omega arith

-- ---- 10 and 9, in the code's order
module _ (p : CheckedProblem) (duration : Float) (torques : List Float) (size : ℕ) where
  pub seeded_uncounted : {counted : Bool} → counted ≡ false → Plans.refused (refusal 10 0) 0 ≡ Plans.seeded p counted duration torques size
  unfolding Plans.seeded
  seeded_uncounted e = rw e refl

  module _ {counted positive : Bool} (c : counted ≡ true) (d : positive ≡ is_positive_value duration) where
    pub seeded_untimed : positive ≡ false → Plans.refused (refusal 10 0) 0 ≡ Plans.seeded p counted duration torques size
    unfolding Plans.seeded
    seeded_untimed e = rw (c, ← d, e) refl

    module _ (t : positive ≡ true) {n : ℕ} (s : n ≡ room p) where
      pub seeded_short : size < n → Plans.refused (refusal 9 0) 0 ≡ Plans.seeded p counted duration torques size
      unfolding Plans.seeded
      seeded_short h = rw (c, ← d, t, ← s, lt-ltb size n h) refl

      pub seeded_search : n ≤ size → Plans.answered p (search p (Plans.seed_of p duration torques)) (Plans.seed_held_of p duration torques) ≡ Plans.seeded p counted duration torques size
      unfolding Plans.seeded
      seeded_search h = rw (c, ← d, t, ← s, le-ltb size n h) refl

-- ---- every answer after the search carries its runs
runs_ended : (e : Fate) (p : CheckedProblem) (f : Found) (held : List ℕ) → (Plans.ended_by_value e p f held).runs ≡ f.runs
runs_ended (Ok _) p f held = refl
runs_ended (Err why) p f held = refl

runs_found : (e : Fate) (p : CheckedProblem) (f : Found) (held : List ℕ) → (Plans.found_by e p f held).runs ≡ f.runs
runs_found (Ok _) p f held = runs_ended (end_fate p f.run) p f held
runs_found (Err why) p f held = refl

pub answered_runs : (p : CheckedProblem) (f : Found) (held : List ℕ) → (Plans.answered p f held).runs ≡ f.runs
unfolding Plans.answered
answered_runs p f held = runs_found f.fate p f held

-- ---- the workspace
pub leaves_none : (ws : List Float) → ws ≡ Plans.leaves 0 ws
unfolding Plans.leaves
leaves_none ws = refl

pub leaves_begun : (runs : ℕ) (ws : List Float) → 1 ≤ runs → replicate (length ws) plus_zero ≡ Plans.leaves runs ws
unfolding Plans.leaves
leaves_begun runs ws h = go (eqb runs 0) refl
  where
    go : (b : Bool) → eqb runs 0 ≡ b → replicate (length ws) plus_zero ≡ cond b ws (replicate (length ws) plus_zero)
    go true e = let z : runs ≡ 0 = eqb-true runs 0 e in absurd (omega arith)
    go false e = refl
