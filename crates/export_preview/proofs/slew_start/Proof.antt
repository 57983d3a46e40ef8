-- `export_preview::slew_start` meets its contract, by the contracts of what it calls. Assumes nothing.
use borrow.Author.Rules.{rules}
use Rattle.export_preview.proofs.slew_start.Statement.{statement}
use Rattle.export_preview.proofs.slew_start.Tie as tie

returns : tie.Need-returns
returns c =
    let is = rw (c.last_of-last.ensures, c.momenta_of-from.ensures) at c.commit-made.ensures in
    record {
      number_is = rw (c.number_of.ensures, is);
      place_is = rw (c.place_of.ensures, is);
      wheels_are = rw is;
      momenta_are = rw is;
    }

pub slew_start_spec : {M : Type 1} → statement M
slew_start_spec =
    tie.close (tie.spec (λ c κs. search rules) (λ c κs. search rules) (λ c κs. search rules) (λ c κs. search rules) (λ c κs. search rules) returns)
