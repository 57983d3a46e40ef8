-- A mosaic's cursor as the counts and numbers that a caller holds, its way as a number, and the mosaics of a problem as declared. Definitions only.
use Rattle.std.specs.Prelude.{ℕ, ◌+◌, ◌≡◌, Bool, cond, List, [], ◌∷◌, eqb, get_or, length, Float, Option, Some, None, Err}
use Rattle.common.specs.Lists.{at}
use Rattle.geom.specs.declared.Quat.{Quat}
use Rattle.problem.specs.declared.Problem.{Problem}
use Rattle.planner.specs.Plans as Plans
use Rattle.eigenaxis_seed.specs.declared.Shape.TheVariants.{Fastest, Gentle}
use Rattle.mosaic.specs.Mosaics.{Flight, quat_of}
use Rattle.mosaic.specs.Mosaics as Mosaics
use Rattle.mosaic.specs.Ways.{planner_by}
use Rattle.mosaic.specs.declared.Advanced.{Advanced}
use Rattle.mosaic.specs.declared.Cursor.{Cursor}
use Rattle.mosaic.specs.declared.ways.Way.TheVariants.{Search, Eigenaxis}
use Rattle.whole_mosaic.specs.Layout as Layout
use Rattle.problem_numbers.specs.Declared as Declared
use Rattle.export_leaves.specs.Outcomes.{fate_number, fate_place}
use Rattle.export.specs.Entries.{EntryTold}
use Rattle.mosaic.specs.declared.ways.Way.{Way}
use Rattle.common.specs.Refusals.{Fate, refusal, going}

-- a refusal's number and place, or number 0
abbrev pub fate : ℕ → ℕ → Fate
fate number place = cond (eqb number 0) going (Err (refusal number place))

-- the count at k
abbrev pub count : List ℕ → ℕ → ℕ
count n k = get_or n k 0

-- the cursor of five counts (legs answered, their runs; a refusal's number, place and runs) and nine numbers (duration, eight momenta)
abbrev pub cursor : ℕ → List ℕ → List Float → Cursor
cursor wheels n s = record {
  index = count n 0;
  momenta = record { count = wheels; at = at s 1 ∷ at s 2 ∷ at s 3 ∷ at s 4 ∷ at s 5 ∷ at s 6 ∷ at s 7 ∷ at s 8 ∷ [] };
  duration = at s 0;
  runs = count n 1;
  fate = fate (count n 2) (count n 3);
  refused_runs = count n 4;
}

-- and back
abbrev pub counts : Cursor → List ℕ
counts c = c.index ∷ c.runs ∷ fate_number c.fate ∷ fate_place c.fate ∷ c.refused_runs ∷ []

abbrev pub sums : Cursor → List Float
sums c =
    c.duration
    ∷ at c.momenta.at 0 ∷ at c.momenta.at 1 ∷ at c.momenta.at 2 ∷ at c.momenta.at 3
    ∷ at c.momenta.at 4 ∷ at c.momenta.at 5 ∷ at c.momenta.at 6 ∷ at c.momenta.at 7
    ∷ []

-- a call answers n and puts the cursor c: its counts and sums
pub record CursorTold (c : Cursor) (n : ℕ) (told : List ℕ) (summed : List Float) : Type 0 where
  pub number_is : n ≡ fate_number c.fate
  pub counts_are : told ≡ counts c
  pub sums_are : summed ≡ sums c

-- ---- the way that a caller's number asks for: 0 the search; 1 about one axis, as short as the limits allow; 2 about one axis, gently; another number none
abbrev pub asked : ℕ → Option Way
asked way =
    cond (eqb way 0) (Some Search)
    (cond (eqb way 1) (Some (Eigenaxis Fastest))
    (cond (eqb way 2) (Some (Eigenaxis Gentle)) None))

-- one leg: the cursor after it, and its answer. 99, which is no refusal's number, where no way is asked for: nothing is planned, and the cursor stays.
abbrev pub turn_by_value : Option Way → Problem → Cursor → Quat → Quat → ℕ → Advanced
turn_by_value (Some way) p c from to size = record {
  cursor = Mosaics.next (planner_by way size) p c from to;
  planned = Mosaics.planned (planner_by way size) p c from to;
}
turn_by_value None p c from to size = record { cursor = c; planned = Plans.refused (refusal 99 0) 0 }

-- the whole mosaic of rows of tiles, from the problem's momenta, into lent lists of a, b, c and d rows; or 99 and no legs
abbrev pub whole_by_value : Option Way → Problem → List (List Float) → ℕ → ℕ → ℕ → ℕ → ℕ → Flight
whole_by_value (Some way) p tiles a b c d size = Layout.lent (planner_by way size) p tiles p.momenta a b c d
whole_by_value None p tiles a b c d size = Mosaics.nothing p.momenta (refusal 99 0)

-- ---- of a problem as declared, on a workspace of `size` numbers
abbrev pub turn : ℕ → List ℕ → List Float → List Float → Bool → List Float → List Float → List ℕ → List Float → ℕ → Advanced
turn way c v b limited from to n s size =
    turn_by_value (asked way) (Declared.problem c v b limited) (cursor (count c 0) n s) (quat_of from) (quat_of to) size

-- what one leg a leaves with the caller: the cursor after it, and its answer as an entry of the planner tells it
pub record TurnTold (a : Advanced) (moved : List ℕ) (summed : List Float) (ws ws' : List Float)
    (n : ℕ) (told : List ℕ) (duration defect : Float) (z : List Float) (nodes : List (List Float)) (held : List ℕ) : Type 0 where
  pub counts_are : moved ≡ counts a.cursor
  pub sums_are : summed ≡ sums a.cursor
  pub leg_told : EntryTold a.planned ws ws' n told duration defect z nodes held

-- the whole mosaic that a caller's number asks for, with these lists and this workspace lent: a leg has a row in each list
abbrev pub whole : ℕ → Problem → List (List Float) → List (List ℕ) → List (List Float) → List (List Float) → List (List (List Float)) → List Float → Flight
whole way p tiles counts times decisions nodes ws =
    whole_by_value (asked way) p tiles (length counts) (length times) (length decisions) (length nodes) (length ws)

-- the workspace after it: untouched where no leg began a run, else all +0
abbrev pub leaves : Cursor → List Float → List Float
leaves c ws = Plans.leaves (c.runs + c.refused_runs) ws

-- what a whole mosaic f leaves with the caller: its cursor, a row for each of its legs in each lent list, the workspace
pub record Fills (f : Flight) (r : Cursor) (counts counts' : List (List ℕ)) (times times' decisions decisions' : List (List Float))
    (nodes nodes' : List (List (List Float))) (ws ws' : List Float) : Type 0 where
  pub cursor : r ≡ f.cursor
  pub counts_as : counts' ≡ Layout.leg_rows Layout.counts f.legs counts
  pub times_as : times' ≡ Layout.leg_rows Layout.times f.legs times
  pub decisions_as : decisions' ≡ Layout.leg_rows Layout.decision f.legs decisions
  pub nodes_as : nodes' ≡ Layout.leg_rows Layout.nodes f.legs nodes
  pub left : ws' ≡ leaves f.cursor ws

-- what a call tells of it: its cursor, and in each lent list a row for each leg
pub record WholeTold (f : Flight) (n : ℕ) (told : List ℕ) (summed : List Float)
    (counts counts' : List (List ℕ)) (times times' decisions decisions' : List (List Float))
    (nodes nodes' : List (List (List Float))) (ws ws' : List Float) : Type 0 where
  pub cursor_told : CursorTold f.cursor n told summed
  pub filled : Fills f f.cursor counts counts' times times' decisions decisions' nodes nodes' ws ws'
