-- What is worked out of the sine and the cosine of one argument, each by itself or both at once. Definitions only.
use Rattle.std.specs.Prelude.{Float, Option, Some, None}

-- f of a sine and a cosine, or o where one of them is outside
abbrev pub on_both : {R : Type 0} → R → (Float → Float → R) → Option Float → Option Float → R
on_both o f None c = o
on_both o f (Some s) None = o
on_both o f (Some s) (Some c) = f s c

-- the same of both at once
abbrev pub at_once : {R : Type 0} → R → (Float → Float → R) → Option (Float × Float) → R
at_once o f None = o
at_once o f (Some (s, c)) = f s c
