-- Whether a test holds at one of the numbers below k, and the sum of what a rule gives for them. Definitions only.
use Rattle.std.specs.Prelude.{ℕ, zero, suc, ◌+◌, Bool, false, ◌||◌}

-- whether f holds at a number below k
unfoldable pub any : (ℕ → Bool) → ℕ → Bool
any f zero = false
any f (suc k) = f k || any f k

-- f 0 and so on up to f (k - 1)
unfoldable pub sum : (ℕ → ℕ) → ℕ → ℕ
sum f zero = 0
sum f (suc k) = sum f k + f k
