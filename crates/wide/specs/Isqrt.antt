-- The whole square root of a number, by its binary digits. Definitions only.
use Rattle.std.specs.Prelude.{ℕ, zero, suc, ◌+◌, ◌*◌, ◌/◌, ◌<◌, ◌≤◌, cond, nat_le}
use Rattle.std.specs.Float.Ieee.{size}

-- one digit more: s is the root of n / 4
abbrev pub next : ℕ → ℕ → ℕ
next s n = cond (nat_le ((2 * s + 1) * (2 * s + 1)) n) (2 * s + 1) (2 * s)

-- k digits of the root of n, which is below 2 ^ k
unfoldable pub digits : ℕ → ℕ → ℕ
digits zero n = 0
digits (suc k) n = next (digits k (n / 4)) n

-- the largest number whose square is at most n
unfoldable pub isqrt : ℕ → ℕ
unfolding digits
isqrt n = digits (size n) n

-- what makes s the root of n
pub record Root (n s : ℕ) : Type 0 where
  pub low : s * s ≤ n
  pub high : n < suc s * suc s
