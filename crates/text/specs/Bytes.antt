-- The bytes of a quoted text, so that definitions show what stands on a line. Definitions only.
use Rattle.std.specs.Prelude.{ℕ, zero, suc, ◌+◌, List, [], ◌∷◌}
use Prim.Native.Char.{code}
use Prim.Native.String.{String, len, char_at}

abbrev bytes_from : String → ℕ → ℕ → List ℕ
bytes_from t at zero = []
bytes_from t at (suc n) = code (char_at t at) ∷ bytes_from t (at + 1) n

-- the codes of the characters of t, all of which are plain ones
abbrev pub bytes : String → List ℕ
bytes t = bytes_from t 0 (len t)
