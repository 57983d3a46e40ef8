-- Sine and cosine at once. Definitions only.
use Rattle.std.specs.Prelude.{Float, Option, Some, None}
use Rattle.angles.specs.Angles.{sin_of, cos_of}

-- both, where neither is outside
abbrev pub both : Option Float → Option Float → Option (Float × Float)
both (Some s) (Some c) = Some (s, c)
both (Some s) None = None
both None b = None

-- sin and cos of x
unfoldable pub both_of : Float → Option (Float × Float)
both_of x = both (sin_of x) (cos_of x)
