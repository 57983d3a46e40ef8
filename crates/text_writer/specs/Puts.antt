-- Bytes put into a buffer. Definitions only.
use Rattle.std.specs.Prelude.{ℕ, ◌+◌, ◌≤◌, ◌≡◌, List, length}
use Rattle.std.proofs.lemmas.List.Edits.{sets}

-- The bytes t stand in the buffer from `at` on, as far as it reaches, and the rest is as it was; the next position; t is at most so long.
pub record Puts (before : List ℕ) (at : ℕ) (t : List ℕ) (most : ℕ) (after : List ℕ) (next : ℕ) : Type 0 where
  pub is : after ≡ sets before at t
  pub ends : next ≡ at + length t
  pub short : length t ≤ most
