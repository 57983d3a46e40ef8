-- A loop that stores one number a turn. Definitions only.
use Rattle.std.specs.Prelude.{ℕ, List, set, Float}
use Rattle.common.specs.Iter.{iter}
use Rattle.common.specs.Lists.{at}

-- number k becomes f k of itself
abbrev pub put : (ℕ → Float → Float) → ℕ → List Float → List Float
put f k l = set l k (f k (at l k))

-- the first n numbers of l, each become f of its index and itself; the others stay
abbrev pub stored : (ℕ → Float → Float) → List Float → ℕ → List Float
stored f l n = iter (put f) l n
