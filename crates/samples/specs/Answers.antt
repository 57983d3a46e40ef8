-- What each answer of this crate is in the specification's numbers: a count or a sample, or a refusal before any run. Definitions only.
use Rattle.std.specs.Prelude.{ℕ, Option, Some, None, Ok, Err}
use Rattle.common.specs.Answer.{Answer, Given, Refused}
use Rattle.samples.specs.declared.PathSample.{PathSample}
use Rattle.samples.specs.Samples.{Sampled}

-- a number of samples, or 20 at place 0
abbrev pub of_count : Option ℕ → Answer ℕ
of_count (Some n) = Given n
of_count None = Refused 20 0 0

-- a sample, or 20 at place 0 or 1, or 5 or 11 at the sample's number
abbrev pub of_sampled : Sampled → Answer PathSample
of_sampled (Ok s) = Given s
of_sampled (Err why) = Refused why.number why.place 0
