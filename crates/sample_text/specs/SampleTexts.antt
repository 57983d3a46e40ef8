-- Dense samples of the plan of a problem's text: what is answered, and what is left of the lent numbers. Definitions only.
use Rattle.std.specs.Prelude.{◌≡◌, ℕ, cond, List, [], ◌∷◌, ◌++◌, length, drop, pos, nat_lt, Float, Result, Ok, Err}
use Rattle.std.specs.Float.{binary64}
use Rattle.std.specs.Float.Ieee.{of_int}
use Rattle.common.specs.Answer.{Answer, Given, Refused}
use Rattle.geom.specs.Vec.{tensor}
use Rattle.problem.specs.Problems.{check}
use Rattle.problem.specs.declared.Problem.{Problem}
use Rattle.planner.specs.Plans as Plans
use Rattle.planner.specs.declared.Planned.{Planned}
use Rattle.samples.specs.Rows.{rows}
use Rattle.samples.specs.Samples as Samples
use Rattle.samples.specs.Samples.{Sampled}
use Rattle.samples.specs.declared.PathSample.{PathSample}
use Rattle.problem_text.specs.Reader.{read_problem}
use Rattle.text_writer.specs.Texts as Texts
use Rattle.plan_text.specs.PlanTexts.{planned}
use Rattle.sample_text.specs.declared.Course.{Course}
use Rattle.sample_text.specs.declared.Dense.{Dense}
use Rattle.common.specs.Refusals.{Fate}
use Rattle.common.specs.declared.Refusal.{Refusal}

-- ---- a text's plan

-- the alpha that the Rust's `plan` hands to `densify`: that of the profile of the checked problem
unfoldable pub alpha_of : Problem → Float
alpha_of p = (Plans.profiled (check p).problem).profile.alpha

-- what a plan is to its samples, which are asked for with an acceleration
unfoldable pub course_of : Problem → Planned → Float → Course
course_of p a alpha = record {
  fate = a.fate;
  runs = a.runs;
  inertia = p.inertia;
  tolerance = p.norm_tolerance;
  alpha = alpha;
  duration = a.path.duration;
  nodes = a.path.nodes;
}

-- the plan of a text with our own seed, in a workspace of `size` numbers; 21 comes before every other refusal
unfoldable pub plan_course : List ℕ → ℕ → Course
plan_course text size = let p = (read_problem text).problem in course_of p (planned text size) (alpha_of p)

-- ---- a dense sample of it

-- sample number index of the path
unfoldable pub sample_of : Course → ℕ → Float → ℕ → Sampled
sample_of c requested alpha index = Samples.sample (tensor c.inertia) c.tolerance c.duration (rows c.nodes) requested alpha index

-- a refused plan has its own runs, a refused sample 0
abbrev pub dense_by : Fate → ℕ → Sampled → Dense
dense_by (Err why) runs s = record { runs = runs; sampled = Err why }
dense_by (Ok _) runs s = record { runs = 0; sampled = s }

unfoldable pub sample_course : Course → ℕ → Float → ℕ → Dense
sample_course c requested alpha index = dense_by c.fate c.runs (sample_of c requested alpha index)

-- ---- the answer: a sample, or number, place and runs
abbrev pub answer_by : {A : Type 0} → ℕ → Result A Refusal → Answer A
answer_by runs (Ok a) = Given a
answer_by runs (Err why) = Refused why.number why.place runs

unfoldable pub answer : Dense → Answer PathSample
answer d = answer_by d.runs d.sampled

-- ---- what is told of it, and the lent numbers at exit. Fewer than 14 get nothing, and then no run begins.

-- time, attitude, rate, torque, body momentum
abbrev pub numbers : PathSample → List Float
numbers s = Texts.state s.t s.q s.w s.tau s.h

-- a count as a float
abbrev pub float : ℕ → Float
float n = of_int binary64 (pos n)

-- a refusal's number, or 0
abbrev pub number : Answer PathSample → ℕ
number (Given s) = 0
number (Refused n place runs) = n

-- a sample's 14 numbers; or a refusal's place and runs
abbrev pub head : Answer PathSample → List Float
head (Given s) = numbers s
head (Refused n place runs) = float place ∷ float runs ∷ []

-- these numbers, then what stood after them
unfoldable pub headed : Answer PathSample → List Float → List Float
headed a out = head a ++ drop (length (head a)) out

-- 99, which is no refusal's number
unfoldable pub told : Answer PathSample → List Float → ℕ
told a out = cond (nat_lt (length out) 14) 99 (number a)

unfoldable pub written : Answer PathSample → List Float → List Float
written a out = cond (nat_lt (length out) 14) out (headed a out)

-- untouched where no run began, else every number +0
unfoldable pub leaves : ℕ → List Float → List Float → List Float
leaves runs out ws = cond (nat_lt (length out) 14) ws (Plans.leaves runs ws)

-- sample number index of the plan for as many numbers as are lent is given
pub record Gives (course : ℕ → Course) (requested : ℕ) (alpha : Float) (index : ℕ) (ws out : List Float) (r : ℕ) (ws' out' : List Float) : Type 0 where
  pub is : r ≡ told (answer (sample_course (course (length ws)) requested alpha index)) out
  pub left : ws' ≡ leaves (course (length ws)).runs out ws
  pub numbers : out' ≡ written (answer (sample_course (course (length ws)) requested alpha index)) out
