-- A float of the program's text: its bits in hexadecimal, top digit first. Read are 1 to 16 digits in either case; written are capitals, trailing zeros dropped but one digit
-- kept. Definitions only.
-- What stands at a position is `get_or s at 0`: past the end stands 0, which no form has.
use Rattle.std.specs.Prelude.{ℕ, zero, suc, ◌+◌, ◌-◌, ◌*◌, ◌/◌, ◌%◌, ◌^◌, ◌≤◌, ◌≡◌, Bool, cond, ◌&&◌, List, [], ◌∷◌, ltb, leb, eqb, length, get_or, Float, Option, Some, None}
use Rattle.std.specs.Float.{binary64}
use Rattle.std.specs.Float.Ieee.{of_bits, to_bits}

abbrev inside : ℕ → ℕ → ℕ → Bool
inside b low high = leb low b && leb b high

-- ---- reading

-- a digit's value, 0 to 9, A to F or a to f, and 16 of any other byte
unfoldable pub digit : ℕ → ℕ
digit b = cond (inside b 48 57) (b - 48) (cond (inside b 65 70) (b - 65 + 10) (cond (inside b 97 102) (b - 97 + 10) 16))

-- at most k more digits, each at its weight
unfoldable pub more : List ℕ → ℕ → ℕ → ℕ → Option (ℕ × ℕ)
more s zero at m = Some (m, at)
more s (suc k) at m =
    cond (ltb (digit (get_or s at 0)) 16)
    (more s k (at + 1) (m + digit (get_or s at 0) * 16 ^ k))
    (Some (m, at))

-- 1 to 16 digits of the pattern from the top; those that are not written are 0
unfoldable pub hex_at : List ℕ → ℕ → Option (ℕ × ℕ)
hex_at s at = cond (ltb (digit (get_or s at 0)) 16) (more s 15 (at + 1) (digit (get_or s at 0) * 16 ^ 15)) None

-- the float of a pattern; every NaN's pattern is the NaN
abbrev pub float : ℕ → Float
float m = of_bits binary64 m

abbrev pub real_by : Option (ℕ × ℕ) → Option (Float × ℕ)
real_by (Some (m, next)) = Some (float m, next)
real_by None = None

unfoldable pub real_at : List ℕ → ℕ → Option (Float × ℕ)
real_at s at = real_by (hex_at s at)

-- ---- writing

-- a digit's byte
unfoldable pub digit_byte : ℕ → ℕ
digit_byte d = cond (ltb d 10) (48 + d) (55 + d)

-- the digits of x below 16 ^ k, from the top, with no zeros after the last other digit
unfoldable pub hex_text : ℕ → ℕ → List ℕ
hex_text zero x = []
hex_text (suc k) x = digit_byte (x / 16 ^ k) ∷ cond (eqb (x % 16 ^ k) 0) [] (hex_text k (x % 16 ^ k))

-- the text of a float; that of the NaN is 7FF8
abbrev pub real_text : Float → List ℕ
real_text x = hex_text 16 (to_bits binary64 x)

-- ---- contracts: the answer is the definition's, and the next position is within the text

-- the position after what was read; 0 where nothing was
abbrev pub next : {A : Type 0} → Option (A × ℕ) → ℕ
next (Some (a, i)) = i
next None = 0

pub record HexIs (s : List ℕ) (at : ℕ) (r : Option (ℕ × ℕ)) : Type 0 where
  pub is : r ≡ hex_at s at
  pub within : next r ≤ length s

pub record RealIs (s : List ℕ) (at : ℕ) (r : Option (Float × ℕ)) : Type 0 where
  pub is : r ≡ real_at s at
  pub within : next r ≤ length s
