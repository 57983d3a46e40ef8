-- IEEE 754's squareRoot, in the style of `lib.Ieee`: the exact root, in units of the format's smallest value, rounded once to the nearest, a tie to the even one.
-- Definitions only.
use Rattle.std.specs.Prelude.{ℕ, zero, suc, ◌+◌, ◌-◌, ◌*◌, ◌/◌, ◌^◌, false, cond, Float}
use Prim.Native.Nat.{compare}
use Rattle.std.specs.Float.{nan, inf, fin, Format}
use Rattle.std.specs.Float.Ieee.{prec, low, up, down, size, nearest, units}
use Rattle.wide.specs.Isqrt.{isqrt}

-- The whole number nearest to the root of n / (u * u), where q is that root, rounded down: q, or the next number up, by how the root of n compares with the middle of the two,
-- (q + 1/2) * u, that is 4 * n with the square of (2 * q + 1) * u.
abbrev pub nearer : ℕ → ℕ → ℕ → ℕ
nearer n u q = nearest q (compare (4 * n) ((2 * q + 1) * u * ((2 * q + 1) * u)))

-- The value of the format f that is nearest to the root of n, in units of f's smallest value.
-- Of the root's whole part the format keeps the `prec` leading digits and drops k.
unfoldable pub root_units : Format → ℕ → Float
root_units f n = let k = size (isqrt n) - prec f in units f false (nearer n (2 ^ k) (isqrt n / 2 ^ k)) k

-- The root of x. In units of f's smallest value, 2 ^ -low, x is m * up e * 2 ^ low / down e, a whole number if x fits f. So the root's square, in square units, is that times 2 ^ low.
-- The root of -0 is -0, and that of a number below it is no number.
unfoldable pub sqrt : Format → Float → Float
unfolding root_units
sqrt f nan = nan
sqrt f (inf s) = cond s nan (inf false)
sqrt f (fin s zero e) = fin s zero e
sqrt f (fin s (suc m) e) = cond s nan (root_units f (suc m * up e * 2 ^ low f / down e * 2 ^ low f))
