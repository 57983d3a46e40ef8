-- The two floats that most definitions name. Definitions only.
use Rattle.std.specs.Prelude.{Float}
use Rattle.std.specs.Float.{binary64}
use Rattle.std.specs.Float.Ieee.{of_bits}

-- +0.0
abbrev pub plus_zero : Float
plus_zero = of_bits binary64 0

-- 1.0
abbrev pub one : Float
one = of_bits binary64 0x3ff0_0000_0000_0000
