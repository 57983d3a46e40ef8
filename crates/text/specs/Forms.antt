-- How the words of a line may be written: how many blanks stand before a word, and what a float looks like. Definitions only.
use Rattle.std.specs.Prelude.{ℕ, zero, suc, ◌+◌, ◌≤◌, ◌≡◌, cond, List, eqb, length, get_or, Float, Option}
use Rattle.text.specs.Hex.{real_at}

-- the position of a word after its first blank, and the float at a position
pub record Form : Type 0 where
  pub skip : List ℕ → ℕ → ℕ
  pub real : List ℕ → ℕ → Option (Float × ℕ)

-- past at most n blanks
unfoldable pub past : List ℕ → ℕ → ℕ → ℕ
past s zero at = at
past s (suc n) at = cond (eqb (get_or s at 0) 32) (past s n (at + 1)) at

unfoldable pub past_blanks : List ℕ → ℕ → ℕ
past_blanks s at = past s (length s) at

-- what the reader takes: any number of blanks, 1 to 16 digits in either case
abbrev pub loose : Form
loose = record { skip = past_blanks; real = real_at }

-- ---- contract: the answer is the definition's, and the position is within the text
pub record PastIs (s : List ℕ) (at r : ℕ) : Type 0 where
  pub is : r ≡ past_blanks s at
  pub within : r ≤ length s
