-- `sample_text::course_of` meets its contract: each field is its definition's. Assumes nothing.
use Rattle.std.proofs.Common.{refl}
use Rattle.sample_text.specs.SampleTexts.{course_of}
use Rattle.sample_text.proofs.course_of.Statement.{statement}
use Rattle.sample_text.proofs.course_of.Tie as tie

returns : tie.Need-returns
unfolding course_of
returns c = refl

pub course_of_spec : {M : Type 1} → statement M
course_of_spec = tie.close (tie.spec returns)
