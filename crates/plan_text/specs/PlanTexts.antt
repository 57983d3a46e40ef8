-- The plan of a problem's text, the bytes that are printed of it, and what is left of the lent buffers. Definitions only.
use Rattle.std.specs.Prelude.{ℕ, ◌≤◌, ◌≡◌, cond, List, [], ◌∷◌, ◌++◌, eqb, ltb, length, drop, Float, Ok, Err}
use Rattle.common.specs.Floats.{plus_zero}
use Rattle.common.specs.Lists.{at, slice}
use Rattle.problem.specs.declared.Problem.{Problem}
use Rattle.planner.specs.Plans as Plans
use Rattle.planner.specs.declared.Path.{Path}
use Rattle.planner.specs.declared.Planned.{Planned}
use Rattle.problem_text.specs.Reader.{read_problem}
use Rattle.problem_text.specs.declared.Read.{Read}
use Rattle.text_writer.specs.Puts.{Puts}
use Rattle.text_writer.specs.Texts as Texts
use Rattle.plan_text.specs.declared.Told.{Told}
use Rattle.common.specs.Refusals.{Fate, refusal}

-- ---- the plan of a text

-- 21 comes before every other check, and before any run
abbrev pub read_by : Fate → Problem → (Problem → Planned) → Planned
read_by (Err why) p plan = Plans.refused why 0
read_by (Ok _) p plan = plan p

-- the plan of what was read
abbrev pub of_read : Read → (Problem → Planned) → Planned
of_read read plan = read_by read.fate read.problem plan

unfoldable pub of_text : List ℕ → (Problem → Planned) → Planned
of_text text plan = of_read (read_problem text) plan

-- with our own seed, in a workspace of `size` numbers
abbrev pub planned : List ℕ → ℕ → Planned
planned text size = of_text text (λ p. Plans.plan p size)

-- With a caller's seed: a duration, 17 rates and 17 torques, 103 numbers. Another count is a seed of no nodes, which is refused with 10 where 10 is checked.
unfoldable pub from_seed : Problem → List Float → ℕ → Planned
from_seed p seed size =
    cond (eqb (length seed) 103)
    (Plans.plan_from p (at seed 0) (slice 1 52 seed) (slice 52 103 seed) size)
    (Plans.plan_from p plus_zero [] [] size)

abbrev pub planned_from : List ℕ → List Float → ℕ → Planned
planned_from text seed size = of_text text (λ p. from_seed p seed size)

-- ---- what is printed of it

abbrev pub path_text : ℕ → Path → List ℕ
path_text runs path = Texts.path runs path.iterations path.controls path.wheels path.z path.nodes

abbrev pub printed_by : Fate → ℕ → Path → List ℕ
printed_by (Err why) runs path = Texts.refused why.number why.place runs
printed_by (Ok _) runs path = path_text runs path

unfoldable pub printed : Planned → List ℕ
printed a = printed_by a.fate a.runs a.path

-- ---- what is told of it, and the lent buffers at exit. A buffer of less than 16,384 bytes gets nothing, and then no run begins.

-- 99, which is no refusal's number
abbrev pub no_room : Told
no_room = record { fate = Err (refusal 99 0); runs = 0; bytes = 0 }

abbrev pub wholly : Planned → Told
wholly a = record { fate = a.fate; runs = a.runs; bytes = length (printed a) }

unfoldable pub told : Planned → List ℕ → Told
told a out = cond (ltb (length out) 16384) no_room (wholly a)

-- the bytes, then what stood after them
unfoldable pub written : Planned → List ℕ → List ℕ
written a out = cond (ltb (length out) 16384) out (printed a ++ drop (length (printed a)) out)

-- untouched where no run began, else every number +0
unfoldable pub leaves : Planned → List ℕ → List Float → List Float
leaves a out ws = cond (ltb (length out) 16384) ws (Plans.leaves a.runs ws)

-- ---- contracts

-- the answer a is printed into a buffer as far as it reaches
pub record Prints (a : Planned) (out : List ℕ) (r : Told) (out' : List ℕ) : Type 0 where
  pub is : r ≡ wholly a
  pub puts : Puts out 0 (printed a) 9970 out' r.bytes

-- the plan for as many numbers as are lent is told; the bytes written lie within the buffer
pub record Tells (plan : ℕ → Planned) (ws : List Float) (out : List ℕ) (r : Told) (ws' : List Float) (out' : List ℕ) : Type 0 where
  pub is : r ≡ told (plan (length ws)) out
  pub left : ws' ≡ leaves (plan (length ws)) out ws
  pub bytes : out' ≡ written (plan (length ws)) out
  pub within : r.bytes ≤ length out'
