-- `max` and `min` where the first is no NaN, and `ceil` at some numbers. Assumes nothing.
use Rattle.std.specs.Prelude.{◌≡◌, cond, T, refl, Float}
use Rattle.std.specs.Float.{nan, inf, fin, binary64}
use Rattle.std.specs.Float.Ieee.{lt, is_nan, of_bits, round, units, size}
use Rattle.float.specs.Ops.{number, max, min, ceil}

pub max_number : (a b : Float) → T (number a) → max a b ≡ cond (lt a b) b a
unfolding max is_nan
max_number nan b n = absurd n
max_number (inf s) b n = refl
max_number (fin s m e) b n = refl

pub min_number : (a b : Float) → T (number a) → min a b ≡ cond (lt b a) b a
unfolding min is_nan
min_number nan b n = absurd n
min_number (inf s) b n = refl
min_number (fin s m e) b n = refl

-- 2.5 and -2.5 give 3 and -2; -0.5 gives -0
example_up : ceil (of_bits binary64 0x4004_0000_0000_0000) ≡ of_bits binary64 0x4008_0000_0000_0000
unfolding ceil of_bits round units size
example_up = refl

example_down : ceil (of_bits binary64 0xc004_0000_0000_0000) ≡ of_bits binary64 0xc000_0000_0000_0000
unfolding ceil of_bits round units size
example_down = refl

example_zero : ceil (of_bits binary64 0xbfe0_0000_0000_0000) ≡ of_bits binary64 0x8000_0000_0000_0000
unfolding ceil of_bits round units size
example_zero = refl
