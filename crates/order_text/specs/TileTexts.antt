-- What every list of bytes means as a table of times, or the first line, from 1, that is wrong or missing. Definitions only.
-- What stands at a position is `get_or s at 0`: past the end stands 0, which no form has.
use Rattle.std.specs.Prelude.{ℕ, ◌+◌, ◌*◌, ◌≤◌, ◌≡◌, Bool, true, false, cond, List, Option, None, Some, IfSome, Result, Ok, Err, ltb, eqb, length, get_or, set, replicate}
use Rattle.common.specs.Iter.{iter}
use Rattle.text.specs.Bytes.{bytes}
use Rattle.text.specs.Hex.{digit}
use Rattle.text.specs.Lines.{is_at}
use Rattle.order_text.specs.declared.reading.Number.{Number}
use Rattle.order_text.specs.declared.reading.Word.{Word}
use Rattle.order_text.specs.declared.reading.Width.{Width}
use Rattle.order_text.specs.declared.reading.Row.{Row}
use Rattle.order_text.specs.declared.reading.ReadTiles.{ReadTiles}
use Rattle.common.specs.Refusals.{refusal, going}

-- ---- a number

-- What a larger number counts as: as a time it is refused all the same, and a budget of so much is never used up.
abbrev pub most : ℕ
most = 99_999_999

abbrev pub capped : ℕ → ℕ
capped v = cond (ltb most v) most v

-- one more decimal digit, if one stands there
unfoldable pub digit_turn : List ℕ → Number → Number
digit_turn s c =
    cond c.going
    (cond (ltb (digit (get_or s c.at 0)) 10)
    (record { going = true; at = c.at + 1; v = capped (c.v * 10 + digit (get_or s c.at 0)) })
    (record { going = false; at = c.at; v = c.v }))
    c

-- up to twenty digits
unfoldable pub number_at : List ℕ → ℕ → Number
number_at s at = iter (λ _ c. digit_turn s c) (record { going = true; at = at; v = 0 }) 20

-- ---- a row

abbrev pub word_by : ℕ → Number → Option Word
word_by at c = cond (eqb c.at at) None (Some (record { at = c.at; v = c.v }))

-- a blank and a number of at least one digit
unfoldable pub word_at : List ℕ → ℕ → Option Word
word_at s at = cond (eqb (get_or s at 0) 32) (word_by (at + 1) (number_at s (at + 1))) None

abbrev pub row_by : ℕ → List ℕ → Option Word → Option Row
row_by place t None = None
row_by place t (Some w) = Some (record { at = w.at; times = set t place w.v })

-- the next word as number `place` of the times; of those past a hundred none is kept
unfoldable pub row_turn : List ℕ → ℕ → Option Row → Option Row
row_turn s place None = None
row_turn s place (Some c) = row_by place c.times (word_at s c.at)

-- n words, from number `base` of the times on
unfoldable pub row_at : List ℕ → ℕ → ℕ → ℕ → List ℕ → Option Row
row_at s at n base t = iter (λ k c. row_turn s (base + k) c) (Some (record { at = at; times = t })) n

-- the last row is closed by two brackets
abbrev pub tail : Bool → List ℕ
tail true = bytes "))\n"
tail false = bytes ")\n"

abbrev pub with_tail : List ℕ → Bool → Option Row → Option Row
with_tail s last None = None
with_tail s last (Some r) = cond (is_at s r.at (tail last)) (Some (record { at = r.at + length (tail last); times = r.times })) None

unfoldable pub line_at : List ℕ → ℕ → ℕ → ℕ → Bool → List ℕ → Option Row
line_at s at n base last t = cond (is_at s at (bytes " (from")) (with_tail s last (row_at s (at + 6) n base t)) None

-- ---- the table

-- a row that is wrong, by its line
abbrev pub table_by : ℕ → Option Row → Result Row ℕ
table_by i None = Err (i + 3)
table_by i (Some r) = Ok r

-- row i of n, where those before it are right
unfoldable pub table_turn : List ℕ → ℕ → ℕ → Result Row ℕ → Result Row ℕ
table_turn s n i (Err line) = Err line
table_turn s n i (Ok c) = table_by i (line_at s c.at n (i * n) (eqb (i + 1) n) c.times)

-- the rows of n tiles, of which the first is line 3; or the first line that is wrong
unfoldable pub table_at : List ℕ → ℕ → ℕ → Result Row ℕ
table_at s at n = iter (table_turn s n) (Ok (record { at = at; times = replicate 100 0 })) n

unfoldable pub width_turn : List ℕ → ℕ → Width → Width
width_turn s at c =
    cond c.going
    (cond (eqb (get_or s at 0) 41) (record { going = false; count = c.count })
    (cond (eqb (get_or s at 0) 32) (record { going = true; count = c.count + 1 }) c))
    c

-- the blanks from a position up to a bracket: as many words as a row has that is right
unfoldable pub width_at : List ℕ → ℕ → ℕ
width_at s at = (iter (λ k c. width_turn s (at + k) c) (record { going = true; count = 0 }) (length s)).count

-- ---- the whole text

abbrev pub closed_word : List ℕ → Option Word → Option Word
closed_word s None = None
closed_word s (Some w) = cond (is_at s w.at (bytes ")\n")) (Some (record { at = w.at + 2; v = w.v })) None

-- line 2
unfoldable pub budget_at : List ℕ → Option Word
budget_at s = cond (is_at s 7 (bytes " (budget")) (closed_word s (word_at s 15)) None

abbrev pub refused : ℕ → ReadTiles
refused line = record { fate = Err (refusal 21 line); tiles = 0; budget = 0; times = replicate 100 0 }

-- nothing stands after the last row
abbrev pub read_by : List ℕ → ℕ → ℕ → Result Row ℕ → ReadTiles
read_by s n b (Err line) = refused line
read_by s n b (Ok t) = cond (eqb t.at (length s)) (record { fate = going; tiles = n; budget = b; times = t.times }) (refused (n + 3))

-- the first row says how many tiles there are, and has one at least
unfoldable pub rows_of : List ℕ → ℕ → ℕ → ReadTiles
rows_of s at b = cond (eqb (width_at s (at + 6)) 0) (refused 3) (read_by s (width_at s (at + 6)) b (table_at s at (width_at s (at + 6))))

abbrev pub after_budget : List ℕ → Option Word → ReadTiles
after_budget s None = refused 2
after_budget s (Some w) = rows_of s w.at w.v

-- the tiles, the budget and the times, or 21 with its line; place 0 over 4,096 bytes
unfoldable pub read_tiles : List ℕ → ReadTiles
read_tiles s =
    cond (ltb 4096 (length s)) (refused 0)
    (cond (is_at s 0 (bytes "(tiles\n"))
    (after_budget s (budget_at s))
    (refused 1))

-- ---- contracts: the answer is the definition's, and the next position is within the text

pub record NumberIs (s : List ℕ) (c r : Number) : Type 0 where
  pub is : r ≡ c
  pub within : r.at ≤ length s
  pub low : r.v ≤ most

pub record WordIs (s : List ℕ) (at : ℕ) (r : Option Word) : Type 0 where
  pub is : r ≡ word_at s at
  pub within : IfSome r (λ w. w.at ≤ length s)

pub record RowIs (s : List ℕ) (c r : Option Row) : Type 0 where
  pub is : r ≡ c
  pub within : IfSome r (λ w. w.at ≤ length s)
