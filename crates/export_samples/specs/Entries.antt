-- What a list over the C interface is asked for, what is told of it, and what is written. Definitions only.
use Rattle.std.specs.Prelude.{ℕ, ◌≡◌, List, Float, length}
use Rattle.geom.specs.Vec as Vec
use Rattle.sample_lists.specs.Lists.{Listing, of_listing, over_rows, sample_list}
use Rattle.export_leaves.specs.Outcomes as Outcomes

-- of a list that ended: the refusal's number and place, or zeros
pub record Told (l : Listing) (n p : ℕ) : Type 0 where
  pub number : n ≡ Outcomes.number (of_listing l)
  pub place : p ≡ Outcomes.place (of_listing l)

-- how many rows it has, and the lent rows at exit: these, then what stood after them
pub record Written (l : Listing) (out : List (List Float)) (n : ℕ) (out' : List (List Float)) : Type 0 where
  pub count : n ≡ length l.rows
  pub rows : out' ≡ over_rows l out

-- the list is all samples of the path, by the inertia's nine numbers, as far as the rows `out` have room
abbrev pub Tells : List Float → Float → Float → List (List Float) → ℕ → Float → List (List Float) → ℕ → ℕ → Type 0
Tells j tol duration nodes requested alpha out n p = Told (sample_list (Vec.tensor j) tol duration nodes requested alpha (length out)) n p

abbrev pub Writes : List Float → Float → Float → List (List Float) → ℕ → Float → List (List Float) → ℕ → List (List Float) → Type 0
Writes j tol duration nodes requested alpha out n out' = Written (sample_list (Vec.tensor j) tol duration nodes requested alpha (length out)) out n out'
