-- `export::sampled::slew_sample_count` meets its contract, by the contracts of what it calls. Assumes nothing.
use borrow.Author.Rules.{rules}
use Rattle.export.proofs.sampled.slew_sample_count.Statement.{statement}
use Rattle.export.proofs.sampled.slew_sample_count.Tie as tie

returns : tie.Need-returns
returns c = rw c.sample_count.ensures at c.put_count.ensures

pub slew_sample_count_spec : {M : Type 1} → statement M
slew_sample_count_spec = tie.close (tie.spec (λ c κs. search rules) (λ c κs. search rules) returns)
