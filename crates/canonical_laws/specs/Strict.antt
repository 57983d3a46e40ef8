-- The strict form of words: one blank, digits in capitals, no zero that could be dropped, a NaN only as 7FF8. The grammar of a problem's text in this form is
-- problem_text `Reader.read_in strict`. Definitions only.
use Rattle.std.specs.Prelude.{ℕ, zero, suc, ◌+◌, ◌-◌, ◌*◌, ◌^◌, Bool, cond, not, ◌&&◌, List, ltb, leb, eqb, get_or, Float, Option, Some, None}
use Rattle.std.specs.Float.{binary64}
use Rattle.std.specs.Float.Ieee.{nan_bits}
use Rattle.text.specs.Hex.{float}
use Rattle.text.specs.Forms.{Form}

-- a digit's value, 0 to 9 or A to F, and 16 of any other byte
unfoldable pub capital : ℕ → ℕ
capital b = cond (leb 48 b && leb b 57) (b - 48) (cond (leb 65 b && leb b 70) (b - 65 + 10) 16)

-- the digits end before `at`: the last is no 0
abbrev pub stop : ℕ → ℕ → ℕ → Option (ℕ × ℕ)
stop m last at = cond (eqb last 0) None (Some (m, at))

-- at most k more digits, each at its weight
unfoldable pub strict_more : List ℕ → ℕ → ℕ → ℕ → ℕ → Option (ℕ × ℕ)
strict_more s zero at m last = stop m last at
strict_more s (suc k) at m last =
    cond (ltb (capital (get_or s at 0)) 16)
    (strict_more s k (at + 1) (m + capital (get_or s at 0) * 16 ^ k) (capital (get_or s at 0)))
    (stop m last at)

-- 1 to 16 digits of the pattern from the top, the last no 0 unless it stands alone
unfoldable pub strict_hex_at : List ℕ → ℕ → Option (ℕ × ℕ)
strict_hex_at s at = cond (ltb (capital (get_or s at 0)) 16) (strict_more s 15 (at + 1) (capital (get_or s at 0) * 16 ^ 15) 1) None

-- a NaN's pattern other than 7FF8
unfoldable pub other_nan : ℕ → Bool
other_nan m = nan_bits binary64 m && not (eqb m 0x7ff8_0000_0000_0000)

abbrev pub strict_by : Option (ℕ × ℕ) → Option (Float × ℕ)
strict_by (Some (m, next)) = cond (other_nan m) None (Some (float m, next))
strict_by None = None

unfoldable pub strict_real_at : List ℕ → ℕ → Option (Float × ℕ)
strict_real_at s at = strict_by (strict_hex_at s at)

abbrev pub strict : Form
strict = record { skip = λ s at. at; real = strict_real_at }
