-- What a call tells of a sample and of a list in the drive board's numbers. Definitions only.
use Rattle.std.specs.Prelude.{ℕ, ◌≡◌, List, ℤ, length}
use Rattle.drive_numbers.specs.Drive.{Driven, of_driven, numbers_or_zeros}
use Rattle.drive_numbers.specs.Lists.{Listing, of_listing, over_rows}
use Rattle.export_leaves.specs.Outcomes.{Placed}

-- of a sample d: a refusal's number and place, or 0, and its 13 numbers, zeros beside a refusal
pub record SampleTold (d : Driven) (n k : ℕ) (out : List ℤ) : Type 0 where
  pub placed : Placed (of_driven d) n k
  pub numbers_are : out ≡ numbers_or_zeros d

-- of a list l: a refusal's number and place, or 0, how many rows were written, and the rows, over what stood there
pub record ListTold (l : Listing) (n k rows : ℕ) (out out' : List (List ℤ)) : Type 0 where
  pub placed : Placed (of_listing l) n k
  pub rows_are : rows ≡ length l.rows
  pub out_is : out' ≡ over_rows l out
