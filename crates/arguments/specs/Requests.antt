-- A number of samples in decimal digits, as the program's argument has it. Definitions only.
use Rattle.std.specs.Prelude.{ℕ, ◌+◌, ◌*◌, ◌-◌, cond, List, Option, None, Some, eqb, ltb, length, get_or}
use Rattle.common.specs.Iter.{iter}

-- One more digit. A number above 10,000 that goes on is above 100,000, for which 100,001 stands: more samples than any path is given.
unfoldable pub with_digit : ℕ → ℕ → Option ℕ
with_digit n b = cond (ltb b 48) None (cond (ltb 57 b) None (cond (ltb 10000 n) (Some 100001) (Some (10 * n + (b - 48)))))

abbrev pub next_by : Option ℕ → ℕ → Option ℕ
next_by None b = None
next_by (Some n) b = with_digit n b

unfoldable pub next : Option ℕ → ℕ → Option ℕ
next r b = next_by r b

abbrev pub turn : List ℕ → ℕ → Option ℕ → Option ℕ
turn s k r = next r (get_or s k 0)

-- the number of a word; none of an empty one, and of one with a byte that is no digit
unfoldable pub requested : List ℕ → Option ℕ
requested s = cond (eqb (length s) 0) None (iter (turn s) (Some 0) (length s))
