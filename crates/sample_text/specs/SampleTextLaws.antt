-- What is told of a sample, in the code's steps. Assumes nothing.
use Rattle.std.specs.Prelude.{◌≡◌, ℕ, ◌+◌, ◌<◌, ◌≤◌, List, ◌++◌, length, drop, slice_index_or, slice_set, refl, Float}
use Rattle.std.proofs.Common.{zero-add, add-one, arith, ◌∙◌, drop_of_length-le, drop-cons}
use borrow.Author.Tests.{lt-ltb, le-ltb}
use Rattle.std.proofs.lemmas.List.Edits.{sets, sets-eq}
use Rattle.std.specs.Float.{nan}
use Rattle.problem.specs.declared.Problem.{Problem}
use Rattle.planner.specs.Plans as Plans
use Rattle.planner.specs.declared.Planned.{Planned}
use Rattle.problem_text.specs.Reader.{read_problem}
use Rattle.problem_text.specs.declared.Read.{Read}
use Rattle.plan_text.specs.PlanTexts.{of_read}
use Rattle.plan_text.specs.PlanTextLaws.{text_planned}
use Rattle.sample_text.specs.SampleTexts.{alpha_of, course_of, plan_course, answer, sample_course, number, headed, told, written, leaves, Gives}
use Rattle.sample_text.specs.declared.Course.{Course}
use Rattle.sample_text.specs.declared.Dense.{Dense}

-- ---- the plan of a text
pub course_planned : (text : List ℕ) (size : ℕ) {read : Read} {a : Planned} {alpha : Float} {c : Course} → read ≡ read_problem text → a ≡ of_read read (λ p. Plans.plan p size) → alpha ≡ alpha_of read.problem → c ≡ course_of read.problem a alpha → c ≡ plan_course text size
unfolding plan_course
course_planned text size e g f h = h ∙ rw (f, text_planned text (λ p. Plans.plan p size) e g, e)

pub runs_of : (p : Problem) (a : Planned) (alpha : Float) → (course_of p a alpha).runs ≡ a.runs
unfolding course_of
runs_of p a alpha = refl

-- ---- numbers stored one after another
module _ (out v : List Float) (k : ℕ) where
  pub sets_next : k < length v → sets out k (drop k v) ≡ sets (slice_set out k (slice_index_or v k nan)) (k + 1) (drop (k + 1) v)
  sets_next h = rw (add-one, drop-cons v k nan)

  pub sets_done : length v ≤ k → sets out k (drop k v) ≡ out
  sets_done h = rw (drop_of_length-le v h)

pub sets_all : (out v : List Float) → length v ≤ length out → sets out 0 v ≡ v ++ drop (length v) out
sets_all out v h = sets-eq v out 0 (omega arith) ∙ rw zero-add

-- ---- what is given
module _ (course : ℕ → Course) (requested : ℕ) (alpha : Float) (index : ℕ) (ws : List Float) {out : List Float} where
  -- too few numbers
  pub gives_short : length out < 14 → Gives course requested alpha index ws out 99 ws out
  unfolding told written leaves
  gives_short h = let l = lt-ltb (length out) 14 h in record { is = rw l; left = rw l; numbers = rw l }

  -- enough of them
  pub gives : {c : Course} {d : Dense} {r : ℕ} {ws' out' : List Float} → 14 ≤ length out → c ≡ course (length ws) → d ≡ sample_course c requested alpha index → r ≡ number (answer d) → ws' ≡ Plans.leaves c.runs ws → out' ≡ headed (answer d) out → Gives course requested alpha index ws out r ws' out'
  unfolding told written leaves
  gives h m e f g k = let l = le-ltb (length out) 14 h in record { is = f ∙ rw (e, m, l); left = g ∙ rw (m, l); numbers = k ∙ rw (e, m, l) }
