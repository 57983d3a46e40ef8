-- `export::texts::slew_sample` meets its contract, by the contracts of what it calls. Assumes nothing.
use borrow.Author.Rules.{rules}
use Rattle.export.proofs.texts.slew_sample.Statement.{statement}
use Rattle.export.proofs.texts.slew_sample.Tie as tie

returns : tie.Need-returns
returns c =
    let sample-text = c.sample_text in
    sample-text.ensures

pub slew_sample_spec : {M : Type 1} → statement M
slew_sample_spec = tie.close (tie.spec (λ c κs. search rules) (λ c. search rules) (λ c. search rules) returns)
