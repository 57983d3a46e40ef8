-- A column of 64-bit words as byte planes, and back. Definitions only.
use Rattle.std.specs.Prelude.{ℕ, zero, suc, ◌+◌, ◌-◌, ◌*◌, ◌/◌, ◌%◌, ◌^◌, ◌<◌, List, [], ◌∷◌, ◌++◌, map, length, get_or}
use Rattle.std.specs.Int.Bits.{bit_xor}

-- each number is below b: 2 ^ 64 for words, 256 for bytes
abbrev pub Below : ℕ → List ℕ → Type 0
Below b l = (i : ℕ) → get_or l i 0 < b

-- each word combined with its predecessor by exclusive or; the first one's predecessor is p
unfoldable pub deltas_from : ℕ → List ℕ → List ℕ
deltas_from p [] = []
deltas_from p (w ∷ c) = bit_xor w p ∷ deltas_from w c

-- the same with the first one kept
unfoldable pub deltas : List ℕ → List ℕ
deltas [] = []
deltas (w ∷ c) = w ∷ deltas_from w c

-- byte j of a word: the top one is byte 0, the lowest byte 7
abbrev pub byte_of : ℕ → ℕ → ℕ
byte_of j d = d / 2 ^ (8 * (7 - j)) % 256

-- byte j of each word
abbrev pub plane : ℕ → List ℕ → List ℕ
plane j ds = map (byte_of j) ds

-- the first k planes, the top one first
unfoldable pub first_planes : ℕ → List ℕ → List ℕ
first_planes zero ds = []
first_planes (suc j) ds = first_planes j ds ++ plane j ds

-- THE PLANES OF A COLUMN
unfoldable pub planes : List ℕ → List ℕ
planes c = first_planes 8 (deltas c)

-- ---- back
-- the first k bytes of word i as a number; its bytes stand n apart
unfoldable pub word_at : List ℕ → ℕ → ℕ → ℕ → ℕ
word_at bs n i zero = 0
word_at bs n i (suc j) = word_at bs n i j * 256 + get_or bs (j * n + i) 0

-- k words from word i on
unfoldable pub words_from : List ℕ → ℕ → ℕ → ℕ → List ℕ
words_from bs n i zero = []
words_from bs n i (suc k) = word_at bs n i 8 ∷ words_from bs n (suc i) k

-- each word combined with the one restored before it, which is p for the first
unfoldable pub restored_from : ℕ → List ℕ → List ℕ
restored_from p [] = []
restored_from p (d ∷ ds) = bit_xor d p ∷ restored_from (bit_xor d p) ds

-- the n words whose planes the bytes are
unfoldable pub restored : List ℕ → ℕ → List ℕ
restored bs n = restored_from 0 (words_from bs n 0 n)

-- THE COLUMN OF PLANES
abbrev pub column : List ℕ → List ℕ
column bs = restored bs (length bs / 8)
