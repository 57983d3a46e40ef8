-- How the rate goes about the axis of the turn: 17 heights, in whole numbers, one a node. Definitions only.
use Rattle.std.specs.Prelude.{ℕ, ◌-◌, ◌*◌, cond, List, [], ◌∷◌, get_or, pos, Float, ltb, Option, Some, None}
use Rattle.std.specs.Float.{binary64}
use Rattle.std.specs.Float.Ieee.{mul, div, lt, of_int, of_bits}
use Rattle.common.specs.Iter.{iter}
use Rattle.eigenaxis_seed.specs.declared.Shape.{Shape}
use Rattle.eigenaxis_seed.specs.declared.Shape.TheVariants.{Fastest, Gentle}

-- s² (1 - s)² at s = i / 16, times 16⁴
abbrev pub wave : List ℕ
wave = 0 ∷ 225 ∷ 784 ∷ 1521 ∷ 2304 ∷ 3025 ∷ 3600 ∷ 3969 ∷ 4096 ∷ 3969 ∷ 3600 ∷ 3025 ∷ 2304 ∷ 1521 ∷ 784 ∷ 225 ∷ 0 ∷ []

-- the smaller of two numbers
abbrev pub least : ℕ → ℕ → ℕ
least a b = cond (ltb a b) a b

-- the height at node i: fastest, a trapezoid that rises for k steps, is level and falls for k (8 is a triangle); gentle, one wave
abbrev pub height : Shape → ℕ → ℕ → ℕ
height Fastest k i = least i (least k (16 - i))
height Gentle k i = get_or wave i 0

-- the sum of the 17 heights (ShapeLaws)
abbrev pub area : Shape → ℕ → ℕ
area Fastest k = k * (16 - k)
area Gentle k = 34952

-- 16.0
abbrev pub sixteen : Float
sixteen = of_bits binary64 0x4030_0000_0000_0000

-- The part of the whole turn that is made a second at node i, of a slew of this duration: 16 × height / (area × duration). The turns of the 16 steps, each the
-- mean of both rates times duration / 16, then sum to the whole.
unfoldable pub pace : Shape → ℕ → Float → ℕ → Float
pace s k duration i = div binary64 (mul binary64 sixteen (of_int binary64 (pos (height s k i)))) (mul binary64 (of_int binary64 (pos (area s k))) duration)

-- one rising step less, where the level rate of k of them is over the slew limit
unfoldable pub fewer_rising : Float → Float → Float → ℕ → ℕ
fewer_rising limit angle duration k = cond (lt limit (mul binary64 angle (pace Fastest k duration 8))) (k - 1) k

abbrev pub rising_turn : Float → Float → Float → ℕ → ℕ → ℕ
rising_turn limit angle duration i k = fewer_rising limit angle duration k

-- the rising steps of a turn by this angle: 8, or fewer, down to 1, where the slew limit asks for a coast
abbrev pub rising : Option Float → Float → Float → ℕ
rising None angle duration = 8
rising (Some limit) angle duration = iter (rising_turn limit angle duration) 8 7
