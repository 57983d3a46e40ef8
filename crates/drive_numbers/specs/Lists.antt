-- A path's whole list for the drive board: the rows of samples 0, 1 and on, up to the first that is refused. Definitions only.
use Rattle.std.specs.Prelude.{ℕ, ◌≡◌, cond, List, [], ◌∷◌, ◌++◌, ltb, ℤ, length, drop, Float, Option, Some, None, Ok, Err}
use Rattle.common.specs.Answer.{Answer}
use Rattle.common.specs.Iter.{iter}
use Rattle.geom.specs.Answers.{of_fate}
use Rattle.samples.specs.Counts.{sample_count}
use Rattle.drive_numbers.specs.declared.lists.Listed.{Listed}
use Rattle.drive_numbers.specs.Drive.{Driven, drive_sample}
use Rattle.common.specs.Refusals.{Fate, refusal, going}

-- the rows so far, and how the list goes on or ended
pub record Listing : Type 0 where
  pub fate : Fate
  pub rows : List (List ℤ)

abbrev pub listing_with : Fate → List (List ℤ) → Listing
listing_with f rows = record { fate = f; rows = rows }

-- one more sample: its row, or its refusal
abbrev pub added_by : Driven → List (List ℤ) → Listing
added_by (Ok row) rows = listing_with going (rows ++ row ∷ [])
added_by (Err why) rows = listing_with (Err why) rows

abbrev pub onward_by : Fate → List (List ℤ) → Driven → Listing
onward_by (Ok _) rows d = added_by d rows
onward_by (Err why) rows d = listing_with (Err why) rows

-- a list that ended stays
unfoldable pub onward : (ℕ → Driven) → ℕ → Listing → Listing
onward sample k l = onward_by l.fate l.rows (sample k)

-- the list of the first n samples
unfoldable pub listing : (ℕ → Driven) → ℕ → Listing
listing sample n = iter (onward sample) (listing_with going []) n

-- `lent` rows are lent: fewer than there are samples get nothing, and 99 is told, which is no refusal's number
abbrev pub drive_list_by : Option ℕ → (ℕ → Driven) → ℕ → Listing
drive_list_by None sample lent = listing_with (Err (refusal 20 0)) []
drive_list_by (Some count) sample lent = cond (ltb lent count) (listing_with (Err (refusal 99 0)) []) (listing sample count)

unfoldable pub drive_list : List (List Float) → Float → Float → List (List Float) → ℕ → Float → ℕ → Listing
drive_list j tol duration nodes requested alpha lent =
    drive_list_by (sample_count duration requested alpha) (drive_sample j tol duration nodes requested alpha) lent

-- in the specification's numbers, before any run
abbrev pub of_listing : Listing → Answer (List (List ℤ))
of_listing l = of_fate l.rows l.fate

-- the lent rows at exit: the list's rows, then what stood after them
abbrev pub over_rows : Listing → List (List ℤ) → List (List ℤ)
over_rows l out = l.rows ++ drop (length l.rows) out

-- what is told of a list that ended before its first row
abbrev pub not_begun : ℕ → Listed
not_begun n = record { fate = Err (refusal n 0); rows = 0 }

-- what is told of a list, and the lent rows
pub record Lists (l : Listing) (out : List (List ℤ)) (r : Listed) (out' : List (List ℤ)) : Type 0 where
  pub fate : r.fate ≡ l.fate
  pub count : r.rows ≡ length l.rows
  pub rows : out' ≡ over_rows l out
