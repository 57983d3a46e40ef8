-- A line of the program's text: what it begins with, its floats, what it ends with. Definitions only.
use Rattle.std.specs.Prelude.{ℕ, zero, suc, ◌+◌, ◌≤◌, ◌≡◌, Bool, true, false, cond, ◌&&◌, List, [], ◌∷◌, ltb, leb, eqb, length, get_or, set, replicate, Float, Option, Some, None, option_and_then}
use Rattle.std.specs.Float.{binary64}
use Rattle.std.specs.Float.Ieee.{of_bits}
use Rattle.text.specs.declared.lines.Row.{Row}
use Rattle.text.specs.declared.lines.Words.{Words}
use Rattle.text.specs.declared.lines.Words.TheVariants.{Floats, Limited, Any}
use Rattle.text.specs.Bytes.{bytes}
use Rattle.text.specs.Hex.{next}
use Rattle.text.specs.Forms.{Form, loose}

-- the bytes w stand at a position
unfoldable pub is_at : List ℕ → ℕ → List ℕ → Bool
is_at s at [] = leb at (length s)
is_at s at (b ∷ w) = ltb at (length s) && (eqb (get_or s at 0) b && is_at s (at + 1) w)

abbrev pub zeros : List Float
zeros = replicate 9 (of_bits binary64 0)

abbrev pub pick : Bool → Option Row → Option Row → Option Row
pick true a b = a
pick false a b = b

-- ---- the words of a line

module _ (f : Form) (s : List ℕ) where
  -- blanks and a float
  unfoldable pub word_at : ℕ → Option (Float × ℕ)
  word_at at = cond (eqb (get_or s at 0) 32) (f.real s (f.skip s (at + 1))) None

  -- blanks and `none`
  unfoldable pub none_at : ℕ → Bool
  none_at at = eqb (get_or s at 0) 32 && is_at s (f.skip s (at + 1)) (bytes "none")

  abbrev pub none_end : ℕ → ℕ
  none_end at = f.skip s (at + 1) + 4

-- after one more float, or where none follows
abbrev pub row_by : Option (Float × ℕ) → (Float → ℕ → Row) → Row → Row
row_by (Some (x, next)) f r = f x next
row_by None f r = r

-- the row r with number x, the last so far, in its place; past the ninth a number is counted only
abbrev pub with_float : Row → Float → ℕ → Row
with_float r x next = record { at = next; count = r.count + 1; v = set r.v r.count x; limit = Some x }

abbrev pub no_floats : ℕ → Row
no_floats at = record { at = at; count = 0; v = zeros; limit = None }

-- ---- a line's form: what it begins with, its words, what it ends with
pub record LineForm : Type 0 where
  pub head : List ℕ
  pub words : Words
  pub tail : List ℕ

abbrev pub form : List ℕ → Words → List ℕ → LineForm
form head words tail = record { head = head; words = words; tail = tail }

-- n floats
unfoldable pub floats : ℕ → Row → Option Row
floats n r = pick (eqb r.count n) (Some r) None

unfoldable pub with_tail : List ℕ → List ℕ → Row → Option Row
with_tail s tail r =
    pick (is_at s r.at tail) (Some (record { at = r.at + length tail; count = r.count; v = r.v; limit = r.limit })) None

-- ---- a line of a text s, its words in the form f
module _ (f : Form) (s : List ℕ) where
  -- the row r and at most n more floats
  unfoldable pub row_from : ℕ → Row → Row
  row_from zero r = r
  row_from (suc n) r = row_by (word_at f s r.at) (λ x next. row_from n (with_float r x next)) r

  -- as many floats as stand at a position: no text has more than bytes
  unfoldable pub row_at : ℕ → Row
  row_at at = row_from (length s) (no_floats at)

  -- the floats are followed by `none`
  unfoldable pub without_limit : Row → Option Row
  without_limit r =
      pick (none_at f s r.at) (Some (record { at = none_end f s r.at; count = r.count; v = r.v; limit = None })) None

  -- n floats and `none`, or one float more, which is the limit
  unfoldable pub limited : ℕ → Row → Option Row
  limited n r = pick (eqb r.count n) (without_limit r) (pick (eqb r.count (n + 1)) (Some r) None)

  abbrev pub words_by : Words → Row → Option Row
  words_by (Floats n) r = floats n r
  words_by (Limited n) r = limited n r
  words_by Any r = Some r

  unfoldable pub words_at : ℕ → Words → Option Row
  words_at at words = words_by words (row_at at)

  unfoldable pub line_at : ℕ → LineForm → Option Row
  line_at at l = pick (is_at s at l.head) (option_and_then (with_tail s l.tail) (words_at (at + length l.head) l.words)) None

-- ---- contracts: the answer is the definition's, and the next position is within the text

pub record IsAt (s : List ℕ) (at : ℕ) (w : List ℕ) (r : Bool) : Type 0 where
  pub is : r ≡ is_at s at w
  pub within : r ≡ true → at + length w ≤ length s

pub record WordIs (s : List ℕ) (at : ℕ) (r : Option (Float × ℕ)) : Type 0 where
  pub is : r ≡ word_at loose s at
  pub within : next r ≤ length s
