-- Vectors of three numbers and tensors of three rows, one rounding an operation, in the order of geom.rs. Definitions only.
use Rattle.std.specs.Prelude.{ℕ, List, [], ◌∷◌, get_or, Bool, ◌&&◌, Float}
use Rattle.std.specs.Float.{binary64}
use Rattle.std.specs.Float.Ieee.{add, sub, mul, lt, le, of_bits}
use Rattle.std.specs.Float.Ieee.Scale.{finite}
use Rattle.common.specs.Floats.{plus_zero}
use Rattle.common.specs.Lists.{at}
use Rattle.float.specs.Ops.{abs, max}

-- row k of a tensor
abbrev pub row : List (List Float) → ℕ → List Float
row m k = get_or m k []

-- 0.5
abbrev pub half : Float
half = of_bits binary64 0x3fe0_0000_0000_0000

-- 2
abbrev pub two : Float
two = of_bits binary64 0x4000_0000_0000_0000

-- -1
abbrev pub minus_one : Float
minus_one = of_bits binary64 0xbff0_0000_0000_0000

-- three times +0
abbrev pub zero3 : List Float
zero3 = plus_zero ∷ plus_zero ∷ plus_zero ∷ []

-- the sum a + b
abbrev pub add3 : List Float → List Float → List Float
add3 a b = add binary64 (at a 0) (at b 0) ∷ add binary64 (at a 1) (at b 1) ∷ add binary64 (at a 2) (at b 2) ∷ []

-- the difference a - b
abbrev pub sub3 : List Float → List Float → List Float
sub3 a b = sub binary64 (at a 0) (at b 0) ∷ sub binary64 (at a 1) (at b 1) ∷ sub binary64 (at a 2) (at b 2) ∷ []

-- v times the number s
abbrev pub scale3 : List Float → Float → List Float
scale3 v s = mul binary64 (at v 0) s ∷ mul binary64 (at v 1) s ∷ mul binary64 (at v 2) s ∷ []

-- the dot product
abbrev pub dot3 : List Float → List Float → Float
dot3 a b = add binary64 (add binary64 (mul binary64 (at a 0) (at b 0)) (mul binary64 (at a 1) (at b 1))) (mul binary64 (at a 2) (at b 2))

-- p q - r s, each product rounded
abbrev pub minor : Float → Float → Float → Float → Float
minor p q r s = sub binary64 (mul binary64 p q) (mul binary64 r s)

-- the cross product a × b
abbrev pub cross : List Float → List Float → List Float
cross a b = minor (at a 1) (at b 2) (at a 2) (at b 1) ∷ minor (at a 2) (at b 0) (at a 0) (at b 2) ∷ minor (at a 0) (at b 1) (at a 1) (at b 0) ∷ []

-- the tensor of nine numbers, by rows
abbrev pub tensor : List Float → List (List Float)
tensor j = (at j 0 ∷ at j 1 ∷ at j 2 ∷ []) ∷ (at j 3 ∷ at j 4 ∷ at j 5 ∷ []) ∷ (at j 6 ∷ at j 7 ∷ at j 8 ∷ []) ∷ []

-- the tensor times a vector
abbrev pub apply_tensor : List (List Float) → List Float → List Float
apply_tensor j w = dot3 (row j 0) w ∷ dot3 (row j 1) w ∷ dot3 (row j 2) w ∷ []

-- the determinant, along the first row
abbrev pub det3 : List (List Float) → Float
det3 j =
    add binary64
    (sub binary64
    (mul binary64 (at (row j 0) 0) (minor (at (row j 1) 1) (at (row j 2) 2) (at (row j 1) 2) (at (row j 2) 1)))
    (mul binary64 (at (row j 0) 1) (minor (at (row j 1) 0) (at (row j 2) 2) (at (row j 1) 2) (at (row j 2) 0))))
    (mul binary64 (at (row j 0) 2) (minor (at (row j 1) 0) (at (row j 2) 1) (at (row j 1) 1) (at (row j 2) 0)))

-- the left side of Euler's equations of a turning rigid body, in the body's frame and with stored momentum h: J w' + w × (J w + h)
abbrev pub euler_lhs : List (List Float) → List Float → List Float → List Float → List Float
euler_lhs j wd w h = add3 (apply_tensor j wd) (cross w (add3 (apply_tensor j w) h))

-- the torque that turns a body about an axis: the left side above for the rate axis × rate and its change axis × alpha
unfoldable pub body_euler_torque : List (List Float) → List Float → Float → Float → List Float → List Float
body_euler_torque j axis alpha rate h = euler_lhs j (scale3 axis alpha) (scale3 axis rate) h

-- the excess e so far, or that of the torque t over its limit l where it is larger
abbrev pub over_by_value : Float → Float → Float → Float
over_by_value e t l = max e (sub binary64 (abs t) l)

-- the largest excess of a torque's size over its limit, +0 where there is none
abbrev pub torque_excess : List Float → List Float → Float
torque_excess t l = over_by_value (over_by_value (over_by_value plus_zero (at t 0) (at l 0)) (at t 1) (at l 1)) (at t 2) (at l 2)

-- is the number finite and above 0
abbrev pub is_positive_value : Float → Bool
is_positive_value x = finite x && lt plus_zero x

-- is the number finite and at most the bound in size
abbrev pub still : Float → Float → Bool
still x bound = finite x && le (abs x) bound

-- is the body at rest: each rate still
abbrev pub rest : List Float → Float → Bool
rest w bound = still (at w 0) bound && (still (at w 1) bound && still (at w 2) bound)
