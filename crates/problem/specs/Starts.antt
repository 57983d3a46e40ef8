-- The momenta that the wheels start with: check 22, and the starts as every forward run has them. Definitions only.
use Rattle.std.specs.Prelude.{ℕ, ◌+◌, Bool, not, cond, ◌&&◌, List, [], ◌∷◌, ltb, eqb, Float, Err}
use Rattle.std.specs.Float.{binary64}
use Rattle.std.specs.Float.Ieee.{lt, of_bits}
use Rattle.std.specs.Float.Ieee.Scale.{finite}
use Rattle.common.specs.Iter.{iter}
use Rattle.common.specs.Lists.{at}
use Rattle.float.specs.Ops.{abs}
use Rattle.problem.specs.declared.Momenta.{Momenta}
use Rattle.common.specs.Refusals.{Fate, refusal, going}

-- a start is finite, and in size not above its wheel's limit
abbrev pub start_fits_value : Float → Float → Bool
start_fits_value limit x = finite x && not (lt limit (abs x))

-- wheel k is one of the n declared wheels and one of the record's, and its start fits
unfoldable pub wheel_starts : ℕ → List Float → Momenta → ℕ → Bool
wheel_starts n limits m k = ltb k n && (ltb k m.count && start_fits_value (at limits k) (at m.at k))

-- how many wheels, from the first on, are so: the first k wheels are, and wheel k as well
abbrev pub leading_turn : ℕ → List Float → Momenta → ℕ → ℕ → ℕ
leading_turn n limits m k r = cond (eqb r k && wheel_starts n limits m k) (k + 1) r

unfoldable pub leading_starts : ℕ → List Float → Momenta → ℕ
leading_starts n limits m = iter (leading_turn n limits m) 0 8

-- 22 at the first wheel that is not so, unless these are all the declared wheels and all the record's
abbrev pub checked_by : ℕ → ℕ → ℕ → Fate
checked_by k n count = cond (eqb k n && eqb k count) going (Err (refusal 22 k))

unfoldable pub check_starts : ℕ → List Float → Momenta → Fate
check_starts n limits m = checked_by (leading_starts n limits m) n m.count

-- ---- the starts of n wheels in their places, +0 past them

abbrev pub place_start : ℕ → ℕ → Float → Float
place_start n k x = cond (ltb k n) x (of_bits binary64 0)

unfoldable pub placed : ℕ → List Float → List Float
placed n v =
    place_start n 0 (at v 0)
    ∷ place_start n 1 (at v 1)
    ∷ place_start n 2 (at v 2)
    ∷ place_start n 3 (at v 3)
    ∷ place_start n 4 (at v 4)
    ∷ place_start n 5 (at v 5)
    ∷ place_start n 6 (at v 6)
    ∷ place_start n 7 (at v 7)
    ∷ []
