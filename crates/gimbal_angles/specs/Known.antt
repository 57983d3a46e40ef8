-- A table of angles, three numbers each: the angle, its sine, its cosine. Definitions only.
use Rattle.std.specs.Prelude.{ℕ, ◌+◌, ◌*◌, ◌≤◌, ◌<◌, ◌≡◌, List, length, set, Float, Option, Some, None}
use Rattle.common.specs.Lists.{at}
use Rattle.angles.specs.Both.{both_of}
use Rattle.actuators.specs.declared.CmgPyramid.{CmgPyramid}

-- the sine and the cosine at place i are those of its angle
abbrev pub RightAt : List Float → ℕ → Type 0
RightAt t i = both_of (at t (3 * i)) ≡ Some (at t (3 * i + 1), at t (3 * i + 2))

-- so they are at every place that the table has; it says of no angle where it came from
abbrev pub Right : List Float → Type 0
Right t = (i : ℕ) → 3 * i + 3 ≤ length t → RightAt t i

-- where there is a pyramid; without one nothing reads the table
abbrev pub KnownOf : Option CmgPyramid → List Float → Type 0
KnownOf None t = Unit {0}
KnownOf (Some p) t = Right t

-- a table of 64 places, the first n of which are right
pub record Filled (n : ℕ) (t : List Float) : Type 0 where
  pub long : length t ≡ 192
  pub right : (i : ℕ) → i < n → RightAt t i

-- the table with place i set
abbrev pub placed : List Float → ℕ → Float → Float → Float → List Float
placed t i x s c = set (set (set t (3 * i) x) (3 * i + 1) s) (3 * i + 2) c
