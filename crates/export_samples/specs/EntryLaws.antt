-- What the code reads from how a list ended is what is told of it. Assumes nothing.
use Rattle.std.specs.Prelude.{ℕ, ◌≡◌, List, Float}
use Rattle.std.proofs.Common.{ap, ◌∙◌}
use Rattle.sample_lists.specs.Lists.{Listing, Lists}
use Rattle.sample_lists.specs.declared.Listed.{Listed}
use Rattle.export_leaves.specs.Outcomes.{fate_number, fate_place}
use Rattle.export_leaves.specs.OutcomeLaws.{of_fate_law}
use Rattle.export_samples.specs.Entries.{Told, Written}

module _ {l : Listing} {r : Listed} {out out' : List (List Float)} (e : Lists l out r out') where
  pub told : {n p : ℕ} → n ≡ fate_number r.fate → p ≡ fate_place r.fate → Told l n p
  told a b =
      let t = of_fate_law l.rows l.fate in
      record { number = a ∙ ap fate_number e.fate ∙ t.number; place = b ∙ ap fate_place e.fate ∙ t.place }

  pub written : Written l out r.rows out'
  written = record { count = e.count; rows = e.rows }
