-- How many samples a path has, as `densify` of scvx.rs counts them. Definitions only.
use Rattle.std.specs.Prelude.{ℕ, ◌+◌, max, cond, from_bits, nat_lt, Float, Option, Some, None}
use Rattle.std.specs.Float.{binary64}
use Rattle.std.specs.Float.Ieee.{mul, div, to_unsigned}
use Rattle.float.specs.Ops as Ops
use Rattle.geom.specs.Vec.{two}

-- 0.001
abbrev milli : Float
milli = from_bits binary64 0x3f50_624d_d2f1_a9fc

-- 0.75
abbrev three_quarters : Float
three_quarters = from_bits binary64 0x3fe8_0000_0000_0000

-- 1e-6
abbrev micro : Float
micro = from_bits binary64 0x3eb0_c6f7_a0b5_ed8d

-- the time between two samples: 2 × 0.001 × 0.75 over alpha, which counts as 1e-6 where it is less or a NaN
unfoldable pub spacing : Float → Float
spacing alpha = div binary64 (mul binary64 (mul binary64 two milli) three_quarters) (Ops.max alpha micro)

-- The count that the rate asks for: the duration over that time, rounded up, cast as Rust's `as usize` casts (a NaN gives 0, a number below 0 gives 0, one too
-- large gives 2^64 - 1), and one more. Where the Rust's sum overflows this is 2^64, which is refused below.
unfoldable pub from_rate : Float → Float → ℕ
from_rate duration alpha = to_unsigned 64 (Ops.ceil (div binary64 duration (spacing alpha))) + 1

-- the most of two counts and the 17 nodes
abbrev pub most : ℕ → ℕ → ℕ
most requested rate = max (max requested rate) 17

-- 100,000 samples are given, 100,001 refused
unfoldable pub count_within : ℕ → Option ℕ
count_within count = cond (nat_lt 100000 count) None (Some count)

unfoldable pub sample_count : Float → ℕ → Float → Option ℕ
sample_count duration requested alpha = count_within (most requested (from_rate duration alpha))
