-- What each answer of this crate is in the specification's numbers. A leaf called alone names place 0 and 0 runs. Definitions only.
use Rattle.std.specs.Prelude.{List, [], ◌∷◌, Float, Option, Some, None, Result, Ok, Err}
use Rattle.common.specs.Answer.{Answer, Given, Refused}
use Rattle.geom.specs.declared.Quat.{Quat}
use Rattle.common.specs.declared.Refusal.{Refusal}
use Rattle.common.specs.Refusals.{Fate}

-- an attitude made unit, or 5
abbrev pub of_normal : Option Quat → Answer Quat
of_normal (Some q) = Given q
of_normal None = Refused 5 0 0

-- the turn by a rotation vector, or 11
abbrev pub of_turned : Option Quat → Answer Quat
of_turned (Some q) = Given q
of_turned None = Refused 11 0 0

-- a rotation vector, or 11
abbrev pub of_rotation : Option (Float × Float × Float) → Answer (List Float)
of_rotation (Some (x, y, z)) = Given (x ∷ y ∷ z ∷ [])
of_rotation None = Refused 11 0 0

-- a unit axis, or 3
abbrev pub of_axis : Option (Float × Float × Float) → Answer (List Float)
of_axis (Some (x, y, z)) = Given (x ∷ y ∷ z ∷ [])
of_axis None = Refused 3 0 0

-- a value beside its fate, before any run
abbrev pub of_fate : {A : Type 0} → A → Fate → Answer A
of_fate a (Ok _) = Given a
of_fate a (Err why) = Refused why.number why.place 0

-- a value or its refusal, before any run
abbrev pub of_result : {A : Type 0} → Result A Refusal → Answer A
of_result (Ok a) = Given a
of_result (Err why) = Refused why.number why.place 0

-- an inverse as nine numbers, or 6
abbrev pub of_inverse : Result (List Float) Refusal → Answer (List Float)
of_inverse i = of_result i
