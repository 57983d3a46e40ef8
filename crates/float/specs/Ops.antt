-- The helpers on f64 that the port writes itself, as Rust has them. Definitions only.
use Rattle.std.specs.Prelude.{◌+◌, ◌-◌, ◌*◌, ◌/◌, Bool, true, false, cond, Float}
use Rattle.std.specs.Float.{nan, inf, fin, binary64}
use Rattle.std.specs.Float.Ieee.{up, down, round, lt, is_nan}

-- not a NaN
abbrev pub number : Float → Bool
number nan = false
number (inf s) = true
number (fin s m e) = true

-- Rust's `f64::abs`: a zero comes out positive
unfoldable pub abs : Float → Float
abs nan = nan
abs (inf s) = inf false
abs (fin s m e) = fin false m e

-- Rust's `f64::max`: a NaN on either side is dropped. Of two equal numbers it is the first; which zero comes out of +0 and -0 is free, since Rust leaves it open.
unfoldable pub max : Float → Float → Float
unfolding lt is_nan
max a b = cond (lt a b) b (cond (is_nan a) b a)

-- Rust's `f64::min`: a NaN on either side is dropped. Of two equal numbers it is the first; which zero comes out of +0 and -0 is free, since Rust leaves it open.
unfoldable pub min : Float → Float → Float
unfolding lt is_nan
min a b = cond (lt b a) b (cond (is_nan a) b a)

-- Rust's `f64::clamp`: a NaN x stays a NaN. Where lo is above hi or one of them is a NaN Rust has no answer, and this one is free: one of the three arguments.
unfoldable pub clamp : Float → Float → Float → Float
unfolding lt
clamp lo hi x = cond (lt x lo) lo (cond (lt hi x) hi x)

-- Rust's `f64::ceil`: the least whole number that is not below x, which is a value of the format. It keeps x's sign, so that a number above -1 and below 0, and -0, give -0.
unfoldable pub ceil : Float → Float
unfolding round
ceil nan = nan
ceil (inf s) = inf s
ceil (fin s m e) = cond s (round binary64 true (m * up e / down e) 1) (round binary64 false ((m * up e + (down e - 1)) / down e) 1)
