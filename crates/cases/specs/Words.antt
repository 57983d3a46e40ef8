-- Words in hexadecimal, the floats that they stand for, and when a float is the stored one. Definitions only.
use Rattle.std.specs.Prelude.{ℕ, ◌+◌, ◌-◌, ◌*◌, ◌%◌, Bool, true, false, cond, not, ◌&&◌, List, length, ◌==◌, from_bits, nat_le, nat_lt, slice_index, to_bits, Float, Option, Some, None}
use Rattle.std.specs.Float.{binary64}
use Rattle.std.specs.Float.Ieee.{eq, ne}
use Rattle.common.specs.Iter.{iter}
use Rattle.cases.specs.declared.read.Word.{Word}

abbrev inside : ℕ → ℕ → ℕ → Bool
inside b low high = nat_le low b && nat_le b high

-- a digit's value, 0 to 9 or a to f; none of any other byte
unfoldable pub digit : ℕ → Option ℕ
digit b = cond (inside b 48 57) (Some (b - 48)) (cond (inside b 97 102) (Some (b - 87)) None)

-- the word after a byte that is the digit d, or no digit: then it has ended
abbrev pub taken_by : Option ℕ → Word → Word
taken_by (Some d) w = record { value = w.value % 1152921504606846976 * 16 + d; next = w.next + 1; going = true }
taken_by None w = record { value = w.value; next = w.next + 1; going = false }

-- one byte more of a word; past the text's end it stays as it is
unfoldable pub taken : List ℕ → Word → Word
taken s w = cond (not w.going) w (cond (nat_lt w.next (length s)) (taken_by (digit (slice_index s w.next)) w) w)

-- the word at a position: at most sixteen digits and what ends them
unfoldable pub word_at : List ℕ → ℕ → Word
word_at s at = iter (λ k. taken s) (record { value = 0; next = at; going = true }) 17

-- the word at k of 1,024; past the end stands 0
abbrev pub word : List ℕ → ℕ → ℕ
word v k = cond (nat_lt k 1024) (slice_index v k) 0

-- the float at k
abbrev pub real : List ℕ → ℕ → Float
real v k = from_bits binary64 (word v k)

-- whether x is what the word says, bit for bit, or both are NaN
unfoldable pub same : ℕ → Float → Bool
same w x = cond (eq x x) (to_bits binary64 x == w) (ne (from_bits binary64 w) (from_bits binary64 w))
