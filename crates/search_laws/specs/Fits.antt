-- What it is that f64 holds the numbers of a list. Definitions only.
use Rattle.std.specs.Prelude.{List, ℕ, T, Float}
use Rattle.std.specs.Float.{binary64}
use Rattle.std.specs.Float.Ieee.{fits}
use Rattle.common.specs.Lists.{at}

-- f64 holds every number of a list
abbrev pub Fit : List Float → Type 0
Fit z = (i : ℕ) → T (fits binary64 (at z i))
