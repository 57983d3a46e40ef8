-- What each answer of this crate is in the specification's numbers, before any run. The attitude of a profile answers as `exp_so3` does. Definitions only.
use Rattle.std.specs.Prelude.{List, [], ◌∷◌, Float, Option, Some, None, Result, Ok, Err}
use Rattle.common.specs.Answer.{Answer, Given, Refused}
use Rattle.geom.specs.Answers.{of_fate}
use Rattle.profile.specs.declared.Profile.{Profile}
use Rattle.profile.specs.declared.Profiled.{Profiled}
use Rattle.common.specs.declared.Refusal.{Refusal}

-- an acceleration, or 7 at place 2
abbrev pub of_acceleration : Option Float → Answer Float
of_acceleration (Some a) = Given a
of_acceleration None = Refused 7 2 0

-- the acceleration's length, the coast's length and the top rate, or 4, or 7 at place 2
abbrev pub of_switches : Result (Float × Float × Float) Refusal → Answer (List Float)
of_switches (Ok (acc, coast, peak)) = Given (acc ∷ coast ∷ peak ∷ [])
of_switches (Err why) = Refused why.number why.place 0

-- a profile, or 4, 7 or 11
abbrev pub of_profiled : Profiled → Answer Profile
of_profiled p = of_fate p.profile p.fate
