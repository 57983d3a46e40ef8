-- The laws at work: each example is a fact, and shows how its law is called. Assumes nothing.
use Rattle.std.specs.Prelude.{◌≡◌, refl, ◌^◌, false, pos, neg_ℤ, T, Float}
use Rattle.std.specs.Float.{fin, binary64}
use Rattle.std.specs.Float.Ieee.{add, sub, mul, lt, fits, of_bits}
use Rattle.std.specs.Float.Ieee.Scale.{finite}
use Rattle.float.specs.Ops.{number, abs}
use Rattle.float.specs.Sqrt.{sqrt}
use Rattle.float_laws.specs.Place.{mag}
use Rattle.float_laws.specs.Numbers.{numbers}
use Rattle.float_laws.specs.Finite.{finites}
use Rattle.float_laws.specs.Signs.{plus_number, pluses}
use Rattle.float_laws.specs.Exact.{exact}
use Rattle.float_laws.specs.Sizes.{Within, mul_in, sub_in}

-- a length of three numbers
abbrev length3 : Float → Float → Float → Float
length3 x y z = sqrt binary64 (add binary64 (add binary64 (mul binary64 x x) (mul binary64 y y)) (mul binary64 z z))

-- a length that is no NaN comes of numbers, a finite one of finite numbers, and a length of numbers is no NaN
no_nan : (x y z : Float) → T (number (length3 x y z)) → T (number x) × T (number y) × T (number z)
no_nan x y z t = search numbers

all_finite : (x y z : Float) → T (finite (length3 x y z)) → T (finite x) × T (finite y) × T (finite z)
all_finite x y z t = search finites

is_number : (x y z : Float) → T (number x) → T (number y) → T (number z) → T (number (length3 x y z))
is_number x y z p q r = plus_number (length3 x y z) (search pluses)

-- 1 and -1/2 in units of 2 ^ -1074
one_exact : exact (of_bits binary64 0x3ff0_0000_0000_0000) ≡ pos (2 ^ 1074)
unfolding exact mag of_bits
one_exact = refl

half_exact : exact (of_bits binary64 0xbfe0_0000_0000_0000) ≡ neg_ℤ (pos (2 ^ 1073))
unfolding exact mag of_bits
half_exact = refl

-- a difference of products of values up to 2: at most 2 ^ 3
product_in : (a b c d : Float) → Within binary64 1 a → Within binary64 1 b → Within binary64 1 c → Within binary64 1 d → Within binary64 3 (sub binary64 (mul binary64 a b) (mul binary64 c d))
product_in a b c d p q r s = sub_in (mul_in p q tt) (mul_in r s tt) tt
