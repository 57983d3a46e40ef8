-- `export_samples::slew_sample_list` meets its contract, by the contracts of what it calls. Assumes nothing.
use Rattle.export_samples.specs.EntryLaws.{told, written}
use borrow.Author.Rules.{rules}
use Rattle.export_samples.proofs.slew_sample_list.Statement.{statement}
use Rattle.export_samples.proofs.slew_sample_list.Tie as tie

returns : tie.Need-returns
returns c =
    let e = rw c.tensor-inertia.ensures at c.sample_list-made.ensures in
    (told e c.number_of.ensures c.place_of.ensures, written e)

pub slew_sample_list_spec : {M : Type 1} → statement M
slew_sample_list_spec = tie.close (tie.spec (λ c κs. search rules) (λ c κs. search rules) (λ c κs. search rules) (λ c κs. search rules) (λ c. search rules) returns)
