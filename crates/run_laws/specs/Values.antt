-- Words for what holds of lists of floats and of attitudes. Definitions only.
use Rattle.std.specs.Prelude.{Bool, true, false, List, ℕ, ◌<◌, T, Float, Ok, Err}
use Rattle.std.specs.Float.{binary64}
use Rattle.std.specs.Float.Ieee.{fits}
use Rattle.std.specs.Float.Ieee.Scale.{finite}
use Rattle.common.specs.Lists.{at}
use Rattle.geom.specs.declared.Quat.{Quat}
use Rattle.float_laws.specs.Order.{Held}
use Rattle.float_laws.specs.Sizes.{Within}
use Rattle.common.specs.Refusals.{Fate}

-- it goes on: no refusal
abbrev pub goes : Fate → Bool
goes (Ok _) = true
goes (Err why) = false

-- three finite numbers; three numbers that f64 holds
abbrev pub Fine3 : List Float → Type 0
Fine3 v = T (finite (at v 0)) × T (finite (at v 1)) × T (finite (at v 2))

abbrev pub Fit3 : List Float → Type 0
Fit3 v = T (fits binary64 (at v 0)) × T (fits binary64 (at v 1)) × T (fits binary64 (at v 2))

-- the first n numbers: each finite; each held by f64; each held by f64 and no NaN
abbrev pub FineN : ℕ → List Float → Type 0
FineN n v = (i : ℕ) → i < n → T (finite (at v i))

abbrev pub FitN : ℕ → List Float → Type 0
FitN n v = (i : ℕ) → i < n → T (fits binary64 (at v i))

abbrev pub HeldN : ℕ → List Float → Type 0
HeldN n v = (i : ℕ) → i < n → Held binary64 (at v i)

-- an attitude whose parts f64 holds; one whose parts are finite and at most 2 ^ k in size
pub record FitsQ (q : Quat) : Type 0 where
  pub w : T (fits binary64 q.w)
  pub x : T (fits binary64 q.x)
  pub y : T (fits binary64 q.y)
  pub z : T (fits binary64 q.z)

pub record WithinQ (k : ℕ) (q : Quat) : Type 0 where
  pub w : Within binary64 k q.w
  pub x : Within binary64 k q.x
  pub y : Within binary64 k q.y
  pub z : Within binary64 k q.z
