-- What the code reads from how a list ended is what its answer says, in the specification's numbers. Assumes nothing.
use Rattle.std.specs.Prelude.{ℕ, ◌≡◌, List, ℤ}
use Rattle.std.proofs.Common.{ap, ◌∙◌}
use Rattle.drive_numbers.specs.Lists.{Listing, Lists}
use Rattle.drive_numbers.specs.declared.lists.Listed.{Listed}
use Rattle.export_leaves.specs.Outcomes.{fate_number, fate_place}
use Rattle.export_leaves.specs.OutcomeLaws.{of_fate_law, placed}
use Rattle.export_board.specs.BoardAnswers.{ListTold}

pub list_told : {l : Listing} {r : Listed} {n k : ℕ} {out out' : List (List ℤ)} → Lists l out r out' → k ≡ fate_place r.fate → n ≡ fate_number r.fate
    → ListTold l n k r.rows out out'
list_told {l} e p q = record {
  placed = placed (of_fate_law l.rows l.fate) (p ∙ ap fate_place e.fate) (q ∙ ap fate_number e.fate);
  rows_are = e.count;
  out_is = e.rows;
}
