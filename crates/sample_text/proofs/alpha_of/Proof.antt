-- `sample_text::alpha_of` meets its contract: each step is its definition's. Assumes nothing.
use Rattle.std.proofs.Common.{rules}
use Rattle.sample_text.specs.SampleTexts.{alpha_of}
use Rattle.sample_text.proofs.alpha_of.Statement.{statement}
use Rattle.sample_text.proofs.alpha_of.Tie as tie

returns : tie.Need-returns
unfolding alpha_of
returns c = rw (c.profiled-made.ensures, c.check-checked.ensures)

pub alpha_of_spec : {M : Type 1} → statement M
alpha_of_spec = tie.close (tie.spec (search rules) (search rules) returns)
