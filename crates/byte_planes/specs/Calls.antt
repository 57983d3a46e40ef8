-- What `encode` and `decode` answer, and what they leave in the output. Definitions only.
use Rattle.std.specs.Prelude.{ℕ, ◌*◌, ◌/◌, Bool, cond, ◌&&◌, List, ◌++◌, Option, None, Some, leb, eqb, length, drop}
use Rattle.byte_planes.specs.Planes.{planes, column}

-- a column of up to 4,096 words, and an output with room for its planes
unfoldable pub fits_column : List ℕ → List ℕ → Bool
fits_column c o = leb (length c) 4096 && leb (8 * length c) (length o)

-- how many bytes were written, or refusal 28
unfoldable pub encoded : List ℕ → List ℕ → Option ℕ
encoded c o = cond (fits_column c o) (Some (8 * length c)) None

-- the planes before the output's rest; untouched where the call is refused
unfoldable pub encoded_out : List ℕ → List ℕ → List ℕ
encoded_out c o = cond (fits_column c o) (planes c ++ drop (8 * length c) o) o

-- 8 bytes for each of up to 4,096 words, and an output with room for the words
unfoldable pub fits_planes : List ℕ → List ℕ → Bool
fits_planes bs o = eqb (length bs) (8 * (length bs / 8)) && (leb (length bs / 8) 4096 && leb (length bs / 8) (length o))

-- how many words were written, or refusal 28
unfoldable pub decoded : List ℕ → List ℕ → Option ℕ
decoded bs o = cond (fits_planes bs o) (Some (length bs / 8)) None

-- the column before the output's rest; untouched where the call is refused
unfoldable pub decoded_out : List ℕ → List ℕ → List ℕ
decoded_out bs o = cond (fits_planes bs o) (column bs ++ drop (length bs / 8) o) o
