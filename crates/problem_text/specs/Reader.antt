-- The problem of a text, or the first line, from 1, that is wrong or missing; over any form of words, and what the reader takes. Definitions only.
use Rattle.std.specs.Prelude.{ℕ, ◌+◌, ◌-◌, Bool, true, false, List, [], ◌∷◌, eqb, ltb, length, get_or, set, replicate, Float, Option, Some, None, Ok, Err}
use Rattle.common.specs.Lists as Lists
use Rattle.common.specs.Answer as Answer
use Rattle.geom.specs.declared.Quat.{Quat}
use Rattle.actuators.specs.declared.Actuators.{Actuators}
use Rattle.actuators.specs.Maps.{no_actuators}
use Rattle.problem.specs.declared.Weights.{Weights}
use Rattle.problem.specs.declared.Momenta.{Momenta}
use Rattle.problem.specs.declared.Problem.{Problem}
use Rattle.text.specs.declared.lines.Row.{Row}
use Rattle.text.specs.declared.lines.Words.TheVariants.{Floats, Limited, Any}
use Rattle.problem_text.specs.declared.listing.Listing.{Listing}
use Rattle.problem_text.specs.declared.Found.{Found}
use Rattle.problem_text.specs.declared.Read.{Read}
use Rattle.text.specs.Bytes.{bytes}
use Rattle.text.specs.Forms.{Form, loose}
use Rattle.text.specs.Lines.{LineForm, form, line_at, no_floats}
use Rattle.problem_text.specs.Listing.{list_at_value}
use Rattle.common.specs.Refusals.{Fate, refusal, going}

-- ---- the lines before the list of actuators, in their order
abbrev pub head_forms : List LineForm
head_forms =
    form (bytes "(problem") (Floats 0) (bytes "\n")
    ∷ form (bytes " (q0") (Floats 4) (bytes ")\n")
    ∷ form (bytes " (qf") (Floats 4) (bytes ")\n")
    ∷ form (bytes " (inertia") (Floats 9) (bytes ")\n")
    ∷ form (bytes " (limit") (Floats 3) (bytes ")\n")
    ∷ form (bytes " (slew") (Limited 0) (bytes ")\n")
    ∷ form (bytes " (weights") (Floats 6) (bytes ")\n")
    ∷ form (bytes " (tolerance") (Floats 2) (bytes ")\n")
    ∷ form (bytes " (momenta") Any (bytes ")\n")
    ∷ []

-- ---- one line after another: each begins where the one before ends, and the first wrong one ends the reading

-- nothing found; so it stands beside a refusal too
abbrev pub nothing : Fate → ℕ → Found
nothing fate at = record { fate = fate; at = at; rows = replicate 9 (no_floats 0); actuators = no_actuators }

abbrev pub wrong : ℕ → Found
wrong line = nothing (Err (refusal 21 line)) 0

abbrev pub pick_found : Bool → Found → Found → Found
pick_found true a b = a
pick_found false a b = b

-- line number `line`, from 1, has this row
unfoldable pub with_row : Found → ℕ → Option Row → Found
with_row c line (Some r) = record { fate = going; at = r.at; rows = set c.rows (line - 1) r; actuators = c.actuators }
with_row c line None = wrong line

-- what goes on goes on to more
abbrev pub goes_on_value : Fate → Found → Found → Found
goes_on_value (Err why) c more = c
goes_on_value (Ok _) c more = more

module _ (f : Form) (s : List ℕ) where
  unfoldable pub next_line : ℕ → Found → LineForm → Found
  next_line line c l = goes_on_value c.fate c (with_row c line (line_at f s c.at l))

  unfoldable pub lines_from : ℕ → Found → List LineForm → Found
  lines_from line c [] = c
  lines_from line c (l ∷ ls) = lines_from (line + 1) (next_line line c l) ls

  abbrev pub lines_at : ℕ → Found
  lines_at at = lines_from 1 (nothing going at) head_forms

  -- place 0 over 4,096 bytes
  unfoldable pub head_at_value : ℕ → Found
  head_at_value at = pick_found (ltb 4096 (length s)) (wrong 0) (lines_at at)

-- ---- then the list, which must be closed
abbrev pub listed_by : Fate → Found → Listing → Found
listed_by (Err why) c l = wrong why.place
listed_by (Ok _) c l = record { fate = going; at = l.at; rows = c.rows; actuators = l.actuators }

unfoldable pub with_list : Found → Listing → Found
with_list c l = pick_found l.unclosed (wrong l.line) (listed_by l.fate c l)

unfoldable pub next_list : Found → Listing → Found
next_list c l = goes_on_value c.fate c (with_list c l)

-- ---- then the count of the momenta: one a wheel, or line 9 is wrong; any other wrong line comes before it

-- the row of line number `line`
abbrev pub row : List Row → ℕ → Row
row rows line = get_or rows (line - 1) (record { at = 0; count = 0; v = []; limit = None })

unfoldable pub judge_count : Found → Found
judge_count c = goes_on_value c.fate c (pick_found (eqb (row c.rows 9).count c.actuators.wheel_count) c (wrong 9))

-- ---- what the lines say

abbrev num : Row → ℕ → Float
num r k = Lists.at r.v k

abbrev pub quat_of : Row → Quat
quat_of r = record { w = num r 0; x = num r 1; y = num r 2; z = num r 3 }

-- in `Weights` order
abbrev pub weights_of : Row → Weights
weights_of r = record { time = num r 0; control = num r 1; energy = num r 2; pointing = num r 3; smoothness = num r 4; momentum = num r 5 }

-- all are counted; of those past the eighth none is kept
abbrev pub momenta_of : Row → Momenta
momenta_of r = record { count = r.count; at = num r 0 ∷ num r 1 ∷ num r 2 ∷ num r 3 ∷ num r 4 ∷ num r 5 ∷ num r 6 ∷ num r 7 ∷ [] }

unfoldable pub problem_of : List Row → Actuators → Problem
problem_of rows a = record {
  q0 = quat_of (row rows 2);
  qf = quat_of (row rows 3);
  inertia = (row rows 4).v;
  torque_limit = num (row rows 5) 0 ∷ num (row rows 5) 1 ∷ num (row rows 5) 2 ∷ [];
  slew = (row rows 6).limit;
  weights = weights_of (row rows 7);
  norm_tolerance = num (row rows 8) 0;
  tie_tolerance = num (row rows 8) 1;
  actuators = a;
  momenta = momenta_of (row rows 9);
}

-- beside a refusal zeros and no actuators
abbrev pub found : Found → Read
found c = record { fate = c.fate; problem = problem_of c.rows c.actuators }

unfoldable pub read_of : Found → Listing → Read
read_of c l = found (judge_count (next_list c l))

-- ---- the whole text: the problem, or 21 with its line
unfoldable pub read_in : Form → List ℕ → Read
read_in f s = read_of (head_at_value f s 0) (list_at_value f s (head_at_value f s 0).at)

-- what the reader takes: blanks between words, digits in either case
abbrev pub read_problem : List ℕ → Read
read_problem s = read_in loose s

-- ---- as an answer: a problem, or refusal 21 and its line
abbrev answer_by : Fate → Problem → Answer.Answer Problem
answer_by (Ok _) p = Answer.Given p
answer_by (Err why) p = Answer.Refused why.number why.place 0

-- no forward run has begun when a text is refused
abbrev pub answer : Read → Answer.Answer Problem
answer r = answer_by r.fate r.problem
