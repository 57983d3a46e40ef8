-- What the functions of `root` say on whole numbers. Definitions only.
use Rattle.std.specs.Prelude.{ℕ, ◌+◌, ◌-◌, ◌*◌, ◌/◌, ◌%◌, ◌^◌, cond, nat_lt}
use Rattle.wide.specs.Isqrt.{isqrt}
use Rattle.float.specs.Sqrt.{nearer}

-- the value of a pattern below infinity's, in units of the smallest value
abbrev pub units_of : ℕ → ℕ
units_of b = cond (nat_lt b (2 ^ 52)) b ((2 ^ 52 + b % 2 ^ 52) * 2 ^ (b / 2 ^ 52 - 1))

-- the root of n, rounded to the nearest whole number
abbrev pub rounded : ℕ → ℕ
rounded n = nearer n 1 (isqrt n)

-- the number from 1 up to 4 whose pattern is g above that of 1, times 2 ^ 52: twice the digits where it is 2 or more
abbrev pub radicand : ℕ → ℕ
radicand g = (2 ^ 52 + g % 2 ^ 52) * (1 + g / 2 ^ 52)
