-- A whole number in decimal, as the program's arguments have it. Definitions only.
use Rattle.std.specs.Prelude.{ℕ, Bool, true, false, cond, List, Option, None, Some, eqb, ltb, ℤ, pos, ◌-ℤ◌, length, get_or, drop}
use Rattle.arguments.specs.Requests.{requested}

-- 1,001 stands for a size above 1,000: it is outside every range all the same
unfoldable pub clipped : ℕ → ℕ
clipped n = cond (ltb n 1001) n 1001

unfoldable pub with_sign : Bool → ℕ → ℤ
with_sign below k = cond below (pos 0 -ℤ pos k) (pos k)

abbrev pub signed_by : Bool → Option ℕ → Option ℤ
signed_by below None = None
signed_by below (Some n) = Some (with_sign below (clipped n))

unfoldable pub signed : Bool → Option ℕ → Option ℤ
signed below r = signed_by below r

-- digits, after a minus where the number is below 0
unfoldable pub whole : List ℕ → Option ℤ
whole s = cond (eqb (length s) 0) None (cond (eqb (get_or s 0 0) 45) (signed true (requested (drop 1 s))) (signed false (requested s)))
