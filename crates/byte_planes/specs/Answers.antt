-- What each answer of this crate is in the specification's numbers. No place is named, and no run begins. Definitions only.
use Rattle.std.specs.Prelude.{ℕ, Option, None, Some}
use Rattle.common.specs.Answer.{Answer, Given, Refused}

-- how many bytes or words were written, or 28
abbrev pub of_stored : Option ℕ → Answer ℕ
of_stored (Some n) = Given n
of_stored None = Refused 28 0 0
