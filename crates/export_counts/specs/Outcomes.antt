-- What an answer leaves in the numbers lent for it: a series' sum and count, or what stood there. Definitions only.
use Rattle.std.specs.Prelude.{Bool, true, false, List, [], ◌∷◌, ℕ, Option, Some, None}

-- two whole numbers in their order
abbrev pub two_words : ℕ → ℕ → List ℕ
two_words a b = a ∷ (b ∷ [])

-- four of them
abbrev pub four_words : ℕ → ℕ → ℕ → ℕ → List ℕ
four_words a b c d = a ∷ (b ∷ (c ∷ (d ∷ [])))

-- a series was formed
abbrev pub is_series : Option (ℕ × ℕ) → Bool
is_series (Some (s, k)) = true
is_series None = false

-- its sum's size and its count, or what stood there
abbrev pub series_or : Option (ℕ × ℕ) → List ℕ → List ℕ
series_or (Some (s, k)) old = two_words s k
series_or None old = old

-- both were formed
abbrev pub are_pair : Option (ℕ × ℕ × ℕ × ℕ) → Bool
are_pair (Some (s, j, c, k)) = true
are_pair None = false

-- the sine's sum and count, then the cosine's, or what stood there
abbrev pub pair_or : Option (ℕ × ℕ × ℕ × ℕ) → List ℕ → List ℕ
pair_or (Some (s, j, c, k)) old = four_words s j c k
pair_or None old = old
