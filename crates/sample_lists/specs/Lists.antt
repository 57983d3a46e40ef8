-- All dense samples of a path: the rows of samples 0, 1 and on, up to the first that is refused. Definitions only.
use Rattle.std.specs.Prelude.{ℕ, ◌≡◌, cond, List, [], ◌∷◌, ◌++◌, ltb, length, drop, Float, Option, Some, None, Ok, Err}
use Rattle.common.specs.Answer.{Answer}
use Rattle.common.specs.Iter.{iter}
use Rattle.common.specs.Lists.{at}
use Rattle.geom.specs.Answers.{of_fate}
use Rattle.samples.specs.Counts.{sample_count}
use Rattle.samples.specs.Samples.{Sampled, sample}
use Rattle.samples.specs.declared.PathSample.{PathSample}
use Rattle.sample_lists.specs.declared.Listed.{Listed}
use Rattle.common.specs.Refusals.{Fate, refusal, going}

-- a sample's 14 numbers: time, attitude, rate, torque, body momentum
unfoldable pub numbers : PathSample → List Float
numbers s =
    s.t ∷ s.q.w ∷ s.q.x ∷ s.q.y ∷ s.q.z
    ∷ at s.w 0 ∷ at s.w 1 ∷ at s.w 2
    ∷ at s.tau 0 ∷ at s.tau 1 ∷ at s.tau 2
    ∷ at s.h 0 ∷ at s.h 1 ∷ at s.h 2
    ∷ []

-- the rows so far, and how the list goes on or ended
pub record Listing : Type 0 where
  pub fate : Fate
  pub rows : List (List Float)

abbrev pub listing_with : Fate → List (List Float) → Listing
listing_with f rows = record { fate = f; rows = rows }

-- one more sample: its row, or its refusal
abbrev pub added_by : Sampled → List (List Float) → Listing
added_by (Ok s) rows = listing_with going (rows ++ numbers s ∷ [])
added_by (Err why) rows = listing_with (Err why) rows

abbrev pub onward_by : Fate → List (List Float) → Sampled → Listing
onward_by (Ok _) rows s = added_by s rows
onward_by (Err why) rows s = listing_with (Err why) rows

-- a list that ended stays
unfoldable pub onward : (ℕ → Sampled) → ℕ → Listing → Listing
onward sample k l = onward_by l.fate l.rows (sample k)

-- the list of the first n samples
unfoldable pub listing : (ℕ → Sampled) → ℕ → Listing
listing sample n = iter (onward sample) (listing_with going []) n

-- `lent` rows are lent: fewer than there are samples get nothing, and 99 is told, which is no refusal's number
abbrev pub sample_list_by : Option ℕ → (ℕ → Sampled) → ℕ → Listing
sample_list_by None sample lent = listing_with (Err (refusal 20 0)) []
sample_list_by (Some count) sample lent = cond (ltb lent count) (listing_with (Err (refusal 99 0)) []) (listing sample count)

unfoldable pub sample_list : List (List Float) → Float → Float → List (List Float) → ℕ → Float → ℕ → Listing
sample_list j tol duration nodes requested alpha lent =
    sample_list_by (sample_count duration requested alpha) (sample j tol duration nodes requested alpha) lent

-- in the specification's numbers, before any run
abbrev pub of_listing : Listing → Answer (List (List Float))
of_listing l = of_fate l.rows l.fate

-- the lent rows at exit: the list's rows, then what stood after them
abbrev pub over_rows : Listing → List (List Float) → List (List Float)
over_rows l out = l.rows ++ drop (length l.rows) out

-- what is told of a list, and the lent rows
pub record Lists (l : Listing) (out : List (List Float)) (r : Listed) (out' : List (List Float)) : Type 0 where
  pub fate : r.fate ≡ l.fate
  pub count : r.rows ≡ length l.rows
  pub rows : out' ≡ over_rows l out

-- what is told of a list that ended before its first row
abbrev pub not_begun : ℕ → Listed
not_begun n = record { fate = Err (refusal n 0); rows = 0 }

-- all samples of a path into the rows `out`
abbrev pub Gives : List (List Float) → Float → Float → List (List Float) → ℕ → Float → List (List Float) → Listed → List (List Float) → Type 0
Gives j tol duration nodes requested alpha out r out' = Lists (sample_list j tol duration nodes requested alpha (length out)) out r out'
