-- `sample_text::sample_of` meets its contract: each step is its definition's. Assumes nothing.
use Rattle.std.proofs.Common.{rules}
use Rattle.sample_text.specs.SampleTexts.{sample_of}
use Rattle.sample_text.proofs.sample_of.Statement.{statement}
use Rattle.sample_text.proofs.sample_of.Tie as tie

returns : tie.Need-returns
unfolding sample_of
returns c = rw (c.sample.ensures, c.rows-by_rows.ensures, c.tensor-j.ensures)

pub sample_of_spec : {M : Type 1} → statement M
sample_of_spec = tie.close (tie.spec (search rules) (search rules) (search rules) returns)
