-- The accepted texts, told without a reader: the pieces of a problem, with one blank or more before each word and 1 to 16 digits in either case for each float.
-- Definitions only.
use Rattle.std.specs.Prelude.{ℕ, zero, suc, ◌+◌, ◌*◌, ◌^◌, ◌≤◌, ◌<◌, ◌≡◌, List, [], ◌∷◌, ◌++◌, length, replicate}
use Rattle.text.specs.Bytes.{bytes}
use Rattle.text.specs.Hex.{digit, float}
use Rattle.canonical_laws.specs.Pieces.{Piece, lit, num, non}

-- every byte is a digit, in either case
abbrev pub Digits : List ℕ → Type 0
Digits [] = Unit {0}
Digits (c ∷ ds) = (digit c < 16) × Digits ds

-- what k digits mean, from the top; those that are not written are 0
unfoldable pub value : ℕ → List ℕ → ℕ
value zero ds = 0
value (suc k) [] = 0
value (suc k) (c ∷ ds) = digit c * 16 ^ k + value k ds

-- one or more blanks
abbrev pub blanks : ℕ → List ℕ
blanks n = replicate (suc n) 32

-- how a piece may look
abbrev pub Look : Piece → List ℕ → Type 0
Look (lit w) u = u ≡ w
Look (num x) u = (n : ℕ) × (ds : List ℕ) × (u ≡ blanks n ++ ds) × (Digits ds) × (0 < length ds) × (length ds ≤ 16) × (x ≡ float (value 16 ds))
Look non u = (n : ℕ) × (u ≡ blanks n ++ bytes "none")

-- how pieces may look, one after another
abbrev pub Looks : List Piece → List ℕ → Type 0
Looks [] w = w ≡ []
Looks (p ∷ ps) w = (u : List ℕ) × (v : List ℕ) × (w ≡ u ++ v) × (Look p u) × (Looks ps v)
