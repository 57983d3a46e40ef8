-- What each answer of this crate is in the specification's numbers: 27, at place 0 and before any run, for what is outside. Definitions only.
use Rattle.std.specs.Prelude.{ℕ, ℤ, pos, Option, None, Some, Result, Ok, Err}
use Rattle.common.specs.Answer.{Answer, Given, Refused}
use Rattle.reach_avoid.specs.declared.StartOutcome.{StartOutcome}
use Rattle.reach_avoid.specs.declared.StartOutcome.TheVariants.{Home, Forced, HeldOff}
use Rattle.reach_avoid.specs.declared.OutOfRange.{OutOfRange}

-- the fewest turns and the first choice; 255 stands for none
pub record Prospect : Type 0 where
  pub turns : ℕ
  pub choice : ℤ

-- a start's prospect, or 27: at home 0 turns and no choice, held off neither
abbrev pub of_start : Result StartOutcome OutOfRange → Answer Prospect
of_start (Ok Home) = Given (record { turns = 0; choice = pos 255 })
of_start (Ok (Forced n u)) = Given (record { turns = n; choice = u })
of_start (Ok HeldOff) = Given (record { turns = 255; choice = pos 255 })
of_start (Err e) = Refused 27 0 0

-- the draught's reply, 255 where there is none, or 27
abbrev pub of_reply : Result (Option ℤ) OutOfRange → Answer ℤ
of_reply (Ok (Some d)) = Given d
of_reply (Ok None) = Given (pos 255)
of_reply (Err e) = Refused 27 0 0
