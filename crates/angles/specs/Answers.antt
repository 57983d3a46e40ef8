-- The answer for each case of the enums: an argument outside its range is refusal 11, at place 0 after 0 runs. Definitions only.
use Rattle.std.specs.Prelude.{Float, Option, Some, None}
use Rattle.common.specs.Answer.{Answer, Given, Refused}

-- of sin, cos and acos
abbrev pub angle_answer : Option Float → Answer Float
angle_answer (Some x) = Given x
angle_answer None = Refused 11 0 0

-- of sin_cos: the sine, then the cosine
abbrev pub both_answer : Option (Float × Float) → Answer (Float × Float)
both_answer (Some (s, c)) = Given (s, c)
both_answer None = Refused 11 0 0
